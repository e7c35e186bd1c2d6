-- The box leads to the value that it keeps.
use Rattle.std.proofs.Common.{◌≡◌, subst, rules}
use Rattle.hickory_base.proofs.zone_store.boxed.BoxDynZoneHandlerZoneHandler.origin.Goals as goal

pub returns : goal.returns
returns g c = subst (λ p. c.origin.result.now ≡ (goal.ZoneHandler-dyn g p).origin_of p.1) (search rules) c.origin.ensures
