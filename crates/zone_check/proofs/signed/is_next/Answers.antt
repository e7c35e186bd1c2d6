use Rattle.std.proofs.Common.{◌∙◌, ap}
use Rattle.wire_names.specs.rr.domain.NameOrder.{name_eq}
use Rattle.zone_check.proofs.NextOwners.{apex_is, next_is}
use Rattle.zone_check.proofs.signed.is_next.Goals as goal

pub returns-in-Some : goal.returns-in-Some
returns-in-Some c = next_is c.args.zone.now c.args.name c.args.next.now c.in-Some.later.now c.eq.result c.in-Some.ensures (c.eq.ensures ∙ ap (name_eq c.args.next.now) c.as_name.ensures.name)

pub returns-in-None : goal.returns-in-None
returns-in-None c = apex_is c.args.zone.now c.args.name c.args.next.now c.eq-in-None.result c.in-None.ensures (c.eq-in-None.ensures ∙ ap (name_eq c.args.next.now) c.origin.ensures)
