-- The box leads to the value that it keeps.
use Rattle.std.proofs.Common.{◌≡◌, subst, rules}
use Rattle.hickory_base.proofs.zone_store.boxed.BoxDynZoneHandlerZoneHandler.axfr_policy.Goals as goal

pub returns : goal.returns
returns g c = subst (λ p. c.axfr_policy.result ≡ (goal.ZoneHandler-dyn g p).axfr_policy_of p.1) (search rules) c.axfr_policy.ensures
