use Rattle.std.proofs.Common.{rules}
use Rattle.zone_serve.proofs.Granted.{grants_more}
use Rattle.zone_serve.proofs.updates.grants_of.Goals as goal

pub loop-place-preserved : goal.loop-place-preserved
loop-place-preserved c =
    rw c.in_ok-push.ensures.items
    (grants_more c.args.keys.now c.args.arguments.now c.loop-place.place _ c.loop-place.grants.items c.in_ok-grant_of.field-0 (search rules) c.loop-place.invariant c.in_ok-grant_of.ensures)
