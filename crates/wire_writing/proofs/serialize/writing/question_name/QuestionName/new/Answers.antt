use Rattle.std.proofs.Common.{arith, take_all}
use Rattle.wire_names.specs.rr.domain.DomainName.{cut}
use Rattle.wire_writing.specs.representation.QuestionNames.{ends_from}
use Rattle.wire_writing.proofs.lemmas.serialize.writing.QuestionEnds.{ends-length}
use Rattle.wire_writing.proofs.serialize.writing.question_name.QuestionName.new.Goals as goal

pub returns : goal.returns
returns c =
    let labels = cut c.args.wire.now in
    take_all c.args.count (ends_from 12 labels) (omega (arith, ends-length 12 labels, c.requires.count))
