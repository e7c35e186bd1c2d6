-- The box leads to the value that it keeps.
use Rattle.std.proofs.Common.{◌≡◌, subst, rules}
use Rattle.hickory_base.proofs.zone_store.boxed.BoxDynZoneHandlerZoneHandler.zone_type.Goals as goal

pub returns : goal.returns
returns g c = subst (λ p. c.zone_type.result ≡ (goal.ZoneHandler-dyn g p).zone_type_of p.1) (search rules) c.zone_type.ensures
