-- The first refusal is that of the records to come.
use Rattle.std.proofs.Common.{◌≡◌, drop}
use Rattle.hickory_base.specs.zone_store.ZoneSets.{zone_records}
use Rattle.hickory_store.specs.updates.Prerequisites.{prerequisite_refusal}
use Rattle.hickory_store.specs.updates.Refusals.{first_refusal}
use Rattle.hickory_store.proofs.updates.prerequisites.check_all.Given as goal

abbrev pub invariant-loop-r : goal.invariant-loop-r
invariant-loop-r l =
    first_refusal (prerequisite_refusal l.zone.origin (zone_records l.zone.sets)) (drop l.r-index l.prerequisites)
    ≡ first_refusal (prerequisite_refusal l.zone.origin (zone_records l.zone.sets)) l.prerequisites
