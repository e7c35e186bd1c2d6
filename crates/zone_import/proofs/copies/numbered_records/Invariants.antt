-- Copies of the records of the sets so far.
use Rattle.std.proofs.Common.{◌≡◌, ◌++◌, List, map}
use Rattle.wire_messages.specs.declared.rr.rdata.RData.{RData}
use Rattle.wire_messages.specs.declared.rr.record.Record.{Record}
use Rattle.hickory_base.specs.zone_store.ZoneSets.{sets_of, shared_sets, zone_records}
use Rattle.zone_import.specs.Imports.{numbered}
use Rattle.zone_import.proofs.copies.numbered_records.Given as goal

abbrev pub invariant-loop-set : goal.invariant-loop-set
invariant-loop-set l =
    (front : List (Record RData)) × (zone_records (sets_of l.fn.sets) ≡ front ++ zone_records (shared_sets l.set-iterator)) × (l.all.items ≡ map (numbered l.serial) front)
