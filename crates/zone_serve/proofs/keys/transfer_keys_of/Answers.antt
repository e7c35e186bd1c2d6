use Rattle.std.proofs.Common.{rules}
use Rattle.zone_serve.proofs.Named.{names_more}
use Rattle.zone_serve.proofs.keys.transfer_keys_of.Goals as goal

pub loop-place-preserved : goal.loop-place-preserved
loop-place-preserved c =
    rw c.in_ok-push.ensures.items
    (names_more c.args.keys.now c.args.arguments.now c.loop-place.place _ c.loop-place.names.items c.in_ok-transfer_key.field-0 (search rules) c.loop-place.invariant c.in_ok-transfer_key.ensures)
