use Rattle.std.proofs.Common.{arith, length, take, ap, ◌∙◌, ◌≡◌, length-take}
use Rattle.wire_names.specs.rr.domain.DomainName.{cut}
use Rattle.wire_names.proofs.lemmas.rr.domain.WireForm.{few_labels}
use Rattle.wire_writing.specs.representation.QuestionNames.{ends_from}
use Rattle.wire_writing.proofs.lemmas.serialize.writing.QuestionEnds.{ends-length}
use Rattle.wire_writing.proofs.serialize.writing.question_name.QuestionName.len.Goals as goal

pub returns-clause-value : goal.returns-clause-value
returns-clause-value c =
    let labels = cut c.self.inside.wire.now in
    let whole : c.self.inside.count ≡ length (take c.self.inside.count (ends_from 12 labels)) = omega (arith, length-take c.self.inside.count (ends_from 12 labels), ends-length 12 labels, c.self.invariant.1) in
    whole ∙ ap length c.self.view_is

pub returns-clause-small : goal.returns-clause-small
returns-clause-small c = omega (arith, few_labels (cut c.self.inside.wire.now) c.self.invariant.0.are, c.self.invariant.1)
