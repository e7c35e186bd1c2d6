-- What was put says the records so far.
use Rattle.std.proofs.Common.{◌≡◌, ◌++◌, List, ℕ, length}
use Rattle.wire_messages.specs.declared.rr.rdata.RData.{RData}
use Rattle.wire_messages.specs.declared.rr.record.Record.{Record}
use Rattle.journal.specs.Read.{contents}
use Rattle.durable_updates.specs.Snapshots.{Say}
use Rattle.durable_updates.proofs.snapshots.push_records.Given as goal

abbrev pub invariant-loop-rest : goal.invariant-loop-rest
invariant-loop-rest l =
    (front : List (Record RData)) × (added : List (List ℕ)) × (l.fn.records ≡ front ++ l.rest)
    × (contents l.entries.items ≡ contents l.fn.entries.items ++ added) × Say added front

abbrev pub decreases-loop-rest : goal.decreases-loop-rest
decreases-loop-rest l = length l.rest
