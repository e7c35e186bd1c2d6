use Rattle.std.proofs.Common.{◌≡◌}
use Rattle.hickory_store.specs.representation.SetChanges.{undone}
use Rattle.hickory_store.proofs.updates.set_changes.undo.Given as goal

abbrev pub invariant-loop-key : goal.invariant-loop-key
invariant-loop-key l = undone l.noted.items l.sets.entries ≡ undone l.fn.noted.items l.fn.sets.entries

abbrev pub decreases-loop-key : goal.decreases-loop-key
decreases-loop-key l = goal.left-loop-key l
