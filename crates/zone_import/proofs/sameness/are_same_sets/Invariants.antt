-- The sets so far are the same.
use Rattle.std.proofs.Common.{◌≡◌, ◌++◌, List}
use Rattle.wire_messages.specs.declared.rr.rdata.RData.{RData}
use Rattle.wire_messages.specs.declared.rr.record.Record.{Record}
use Rattle.hickory_base.specs.zone_store.ZoneSets.{IsZone, sets_of, shared_sets, zone_records}
use Rattle.hickory_store.specs.updates.Identity.{SameZone}
use Rattle.zone_import.proofs.sameness.are_same_sets.Given as goal

abbrev pub invariant-loop-set : goal.invariant-loop-set
invariant-loop-set l =
    (front : List (Record RData)) × (seen : List (Record RData)) × (zone_records (sets_of l.fn.sets) ≡ front ++ zone_records (shared_sets l.set-iterator))
    × (zone_records (sets_of l.fn.others) ≡ seen ++ zone_records (shared_sets l.left)) × SameZone front seen
    × IsZone (shared_sets l.set-iterator) × IsZone (shared_sets l.left)
