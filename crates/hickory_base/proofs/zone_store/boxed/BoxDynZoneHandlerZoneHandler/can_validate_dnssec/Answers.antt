-- The box leads to the value that it keeps.
use Rattle.std.proofs.Common.{◌≡◌, subst, rules}
use Rattle.hickory_base.proofs.zone_store.boxed.BoxDynZoneHandlerZoneHandler.can_validate_dnssec.Goals as goal

pub returns : goal.returns
returns g c = subst (λ p. c.can_validate_dnssec.result ≡ (goal.ZoneHandler-dyn g p).validates_dnssec p.1) (search rules) c.can_validate_dnssec.ensures
