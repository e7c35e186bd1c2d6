use Rattle.std.proofs.Common.{◌≡◌, length}
use Rattle.hickory_store.specs.representation.SetChanges.{at, take_all}
use Rattle.wire_messages.specs.declared.rr.rr_key.RrKey.{RrKey}
use Rattle.hickory_store.proofs.updates.set_changes.remove_all.Given as goal

abbrev pub invariant-loop-left : goal.invariant-loop-left
invariant-loop-left l = (q : RrKey) → take_all l.left (at l.sets) q ≡ take_all l.fn.gone (at l.fn.sets) q

abbrev pub decreases-loop-left : goal.decreases-loop-left
decreases-loop-left l = length l.left
