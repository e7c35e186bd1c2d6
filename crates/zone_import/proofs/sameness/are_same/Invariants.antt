-- The records so far are the same.
use Rattle.std.proofs.Common.{◌≡◌, ◌++◌, List, length}
use Rattle.wire_messages.specs.declared.rr.rdata.RData.{RData}
use Rattle.wire_messages.specs.declared.rr.record.Record.{Record}
use Rattle.hickory_store.specs.updates.Identity.{SameZone}
use Rattle.zone_import.proofs.sameness.are_same.Given as goal

abbrev pub invariant-loop-rest : goal.invariant-loop-rest
invariant-loop-rest l =
    (front : List (Record RData)) × (seen : List (Record RData)) × (l.fn.records ≡ front ++ l.rest) × (l.fn.others ≡ seen ++ l.left) × SameZone front seen

abbrev pub decreases-loop-rest : goal.decreases-loop-rest
decreases-loop-rest l = length l.rest
