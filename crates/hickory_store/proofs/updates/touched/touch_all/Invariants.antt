-- What is left of the updates does to the records of now what all of them do to the records before.
use Rattle.std.proofs.Common.{◌≡◌, ◌||◌, List, drop}
use Rattle.wire_messages.specs.declared.rr.rdata.RData.{RData}
use Rattle.wire_messages.specs.declared.rr.record.Record.{Record}
use Rattle.hickory_base.specs.zone_store.ZoneSets.{zone_records}
use Rattle.hickory_store.specs.updates.Changes.{any_change, after_updates}
use Rattle.hickory_store.specs.updates.NameUpdates.{AreNow}
use Rattle.hickory_store.proofs.updates.touched.touch_all.Given as goal

abbrev pub invariant-loop-r : goal.invariant-loop-r
invariant-loop-r l =
    (records : List (Record RData)) → AreNow (zone_records l.zone.sets) l.fn.touched records
    → (now : List (Record RData)) × AreNow (zone_records l.zone.sets) l.touched now
    × (after_updates l.by_rfc l.zone.origin now (drop l.r-index l.updates) ≡ after_updates l.by_rfc l.zone.origin records l.updates)
    × ((l.changed || any_change l.by_rfc l.zone.origin now (drop l.r-index l.updates)) ≡ any_change l.by_rfc l.zone.origin records l.updates)
