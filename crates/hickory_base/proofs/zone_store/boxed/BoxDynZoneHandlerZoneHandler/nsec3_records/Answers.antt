-- The box leads to the value that it keeps.
use Rattle.std.proofs.Common.{subst, rules}
use Rattle.hickory_base.specs.zone_store.Denials.{nsec3_question}
use Rattle.hickory_base.proofs.zone_store.boxed.BoxDynZoneHandlerZoneHandler.nsec3_records.Goals as goal

pub returns : goal.returns
returns g c = subst (λ p. (goal.ZoneHandler-dyn g p).nsec3_gives p.1 (nsec3_question c.args.info) c.args.options c.nsec3_records.result) (search rules) c.nsec3_records.ensures
