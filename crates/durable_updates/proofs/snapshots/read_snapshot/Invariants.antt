-- The entries so far say the records that were read.
use Rattle.std.proofs.Common.{◌≡◌, ◌++◌, List, ℕ, length}
use Rattle.journal.specs.Read.{contents}
use Rattle.durable_updates.specs.Snapshots.{Say}
use Rattle.durable_updates.proofs.snapshots.read_snapshot.Given as goal

abbrev pub invariant-loop-rest : goal.invariant-loop-rest
invariant-loop-rest l = (front : List (List ℕ)) × (contents l.fn.entries ≡ front ++ contents l.rest) × Say front l.records.items

abbrev pub decreases-loop-rest : goal.decreases-loop-rest
decreases-loop-rest l = length l.rest
