use Rattle.std.proofs.Common.{◌≡◌}
use Rattle.std.specs.Vec.Iter.{into_iter_items}
use Rattle.hickory_store.specs.representation.SetChanges.{AllPresent, at, put_all}
use Rattle.wire_messages.specs.declared.rr.rr_key.RrKey.{RrKey}
use Rattle.hickory_store.proofs.updates.set_changes.replace_all.Given as goal

abbrev pub invariant-loop-put : goal.invariant-loop-put
invariant-loop-put l =
    (goal.iterator-loop-put).can_next l.put-iterator ×
    (goal.iterator-loop-put).is_finite l.put-iterator ×
    ((q : RrKey) → put_all (into_iter_items l.put-iterator) (at l.sets) q ≡ put_all l.fn.puts.items (at l.fn.sets) q) ×
    AllPresent (into_iter_items l.put-iterator) l.sets
