use Rattle.std.proofs.Common.{◌≡◌, length, true, false}
use Rattle.hickory_store.specs.representation.SetChanges.{AllPresent, KeepsKeys, SharedSets, at, is_put, undone}
use Rattle.wire_messages.specs.declared.rr.rr_key.RrKey.{RrKey}
use Rattle.hickory_store.proofs.updates.set_changes.put_all_new.Given as goal

abbrev pub invariant-loop-left : goal.invariant-loop-left
invariant-loop-left l = record {
  undone : undone l.noted.items l.sets.entries ≡ undone l.fn.noted.items l.fn.sets.entries;
  present : (n : SharedSets) → KeepsKeys l.sets n → AllPresent l.left n → AllPresent l.fn.puts n;
  within : (q : RrKey) → is_put l.left q ≡ true → is_put l.fn.puts q ≡ true;
  others : (q : RrKey) → is_put l.fn.puts q ≡ false → at l.sets q ≡ at l.fn.sets q;
}

abbrev pub decreases-loop-left : goal.decreases-loop-left
decreases-loop-left l = length l.left
