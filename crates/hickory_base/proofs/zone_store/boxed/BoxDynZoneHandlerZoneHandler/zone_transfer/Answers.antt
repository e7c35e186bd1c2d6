-- The box leads to the value that it keeps.
use Rattle.std.proofs.Common.{subst, rules}
use Rattle.hickory_base.proofs.zone_store.boxed.BoxDynZoneHandlerZoneHandler.zone_transfer.Goals as goal

pub returns : goal.returns
returns g c = subst (λ p. (goal.ZoneHandler-dyn g p).transfer_gives p.1 c.args.request.now c.args.options c.args.now c.zone_transfer.result) (search rules) c.zone_transfer.ensures
