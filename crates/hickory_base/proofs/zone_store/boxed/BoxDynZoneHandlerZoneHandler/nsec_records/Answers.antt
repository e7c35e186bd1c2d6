-- The box leads to the value that it keeps.
use Rattle.std.proofs.Common.{subst, rules}
use Rattle.hickory_base.proofs.zone_store.boxed.BoxDynZoneHandlerZoneHandler.nsec_records.Goals as goal

pub returns : goal.returns
returns g c = subst (λ p. (goal.ZoneHandler-dyn g p).nsec_gives p.1 c.args.name.now c.args.options c.nsec_records.result) (search rules) c.nsec_records.ensures
