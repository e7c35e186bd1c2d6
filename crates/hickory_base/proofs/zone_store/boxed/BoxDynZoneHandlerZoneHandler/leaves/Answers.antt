-- The box leads to the value that it keeps.
use Rattle.std.proofs.Common.{None, subst, rules}
use Rattle.std.specs.Bool.{IsTrue}
use Rattle.std.specs.Option.{option_copied, option_map}
use Rattle.hickory_base.specs.requests.Requests.{information_of}
use Rattle.hickory_base.specs.zone_store.Lookups.{Flow}
use Rattle.hickory_base.proofs.zone_store.boxed.BoxDynZoneHandlerZoneHandler.leaves.Goals as goal

pub returns : goal.returns
returns g c = subst (λ p. IsTrue c.leaves.result → (last : Flow) → (goal.ZoneHandler-dyn g p).consult_gives p.1 c.args.name.now c.args.record_type (option_map information_of (option_copied c.args.info)) c.args.options last last None) (search rules) c.leaves.ensures
