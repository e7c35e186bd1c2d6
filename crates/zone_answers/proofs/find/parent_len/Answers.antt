use Rattle.std.proofs.Common.{subst}
use Rattle.wire_names.specs.rr.domain.DomainName.{AreLabels, DomainName}
use Rattle.zone_answers.proofs.lemmas.zones.CutsAbove.{rest_labels}
use Rattle.zone_answers.proofs.find.parent_len.Goals as goal

pub returns-clause-labels : goal.returns-clause-labels
returns-clause-labels c = rest_labels c.args.name.now.labels 1 (subst (λ (d : DomainName). AreLabels d.labels) c.as_name.ensures.name c.as_wire-wire.ensures.bounds)
