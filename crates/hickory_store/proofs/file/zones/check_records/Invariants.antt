-- The records are a front in which none is wrong, and the rest. The rest gets shorter.
use Rattle.std.proofs.Common.{◌≡◌, ◌++◌, List, length}
use Rattle.wire_messages.specs.declared.rr.rdata.RData.{RData}
use Rattle.wire_messages.specs.declared.rr.record.Record.{Record}
use Rattle.hickory_store.specs.file.RecordZones.{AreOfZone}
use Rattle.hickory_store.proofs.file.zones.check_records.Given as goal

abbrev pub invariant-loop-rest : goal.invariant-loop-rest
invariant-loop-rest l = (front : List (Record RData)) × (l.fn.records ≡ front ++ l.rest) × AreOfZone l.fn.apex front

abbrev pub decreases-loop-rest : goal.decreases-loop-rest
decreases-loop-rest l = length l.rest
