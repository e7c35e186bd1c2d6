-- The records that are kept are the first of those of a front, and the set knows them.
use Rattle.std.proofs.Common.{◌≡◌, ◌++◌, List}
use Rattle.std.specs.Vec.Iter.{into_iter_items}
use Rattle.wire_messages.specs.declared.rr.rdata.RData.{RData}
use Rattle.wire_messages.specs.declared.rr.record.Record.{Record}
use Rattle.hickory_store.specs.file.FirstRecords.{Knows, first_records}
use Rattle.hickory_store.proofs.file.first_records.first_records.Given as goal

abbrev pub invariant-loop-q : goal.invariant-loop-q
invariant-loop-q l =
    (goal.iterator-loop-q).can_next l.q-iterator
    × (goal.iterator-loop-q).is_finite l.q-iterator
    × (front : List (Record RData))
    × (front ++ into_iter_items l.q-iterator ≡ l.fn.records.items)
    × (l.kept.items ≡ first_records front)
    × Knows l.kept.items l.met
