-- The records before the rest were read.
use Rattle.std.proofs.Common.{length}
use Rattle.std.specs.List.{AllByRecursion}
use Rattle.hickory_store.specs.representation.ZoneSets.{HasSerial}
use Rattle.hickory_store.proofs.updates.updating.read_serials.Given as goal

abbrev pub invariant-loop-rest : goal.invariant-loop-rest
invariant-loop-rest l = AllByRecursion HasSerial l.rest → AllByRecursion HasSerial l.fn.records

abbrev pub decreases-loop-rest : goal.decreases-loop-rest
decreases-loop-rest l = length l.rest
