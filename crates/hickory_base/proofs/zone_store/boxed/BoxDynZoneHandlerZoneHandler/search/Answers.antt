-- The box leads to the value that it keeps.
use Rattle.std.proofs.Common.{subst, rules}
use Rattle.hickory_base.proofs.zone_store.boxed.BoxDynZoneHandlerZoneHandler.search.Goals as goal

pub returns : goal.returns
returns g c = subst (λ p. (goal.ZoneHandler-dyn g p).search_gives p.1 c.args.request.now c.args.options c.search.result.0 c.search.result.1) (search rules) c.search.ensures
