-- The box leads to the value that it keeps.
use Rattle.std.proofs.Common.{subst, rules}
use Rattle.std.specs.Option.{option_copied, option_map}
use Rattle.hickory_base.specs.requests.Requests.{information_of}
use Rattle.hickory_base.proofs.zone_store.boxed.BoxDynZoneHandlerZoneHandler.consult.Goals as goal

pub returns : goal.returns
returns g c = subst (λ p. (goal.ZoneHandler-dyn g p).consult_gives p.1 c.args.name.now c.args.record_type (option_map information_of (option_copied c.args.info)) c.args.options c.args.last c.consult.result.0 c.consult.result.1) (search rules) c.consult.ensures
