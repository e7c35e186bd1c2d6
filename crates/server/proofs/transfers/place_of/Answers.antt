use Rattle.std.proofs.Common.{◌∙◌}
use Rattle.wire_names.specs.rr.domain.NameOrder.{name_eq}
use Rattle.server.proofs.OwnRules.{or_end}
use Rattle.server.proofs.transfers.place_of.Goals as goal

pub returns : goal.returns
returns c = rw c.first_place.ensures at c.unwrap_or.ensures ∙ or_end (λ zone. name_eq zone.apex c.args.apex.now) c.args.zones.now
