-- What was put and what is to come of the other names are what changed of all.
use Rattle.std.proofs.Common.{◌≡◌, ◌++◌, drop}
use Rattle.std.specs.List.{flat_map}
use Rattle.hickory_base.specs.zone_store.ZoneSets.{zone_records}
use Rattle.zone_differences.specs.Standing.{came, went}
use Rattle.zone_differences.proofs.before.compare.Given as goal

abbrev pub invariant-loop-before : goal.invariant-loop-before
invariant-loop-before l = record {
  deleted : l.deleted.items ++ flat_map (went l.origin (zone_records l.zone.sets)) (drop l.before-index l.names) ≡ flat_map (went l.origin (zone_records l.zone.sets)) l.names;
  added : l.added.items ++ flat_map (came l.origin (zone_records l.zone.sets)) (drop l.before-index l.names) ≡ flat_map (came l.origin (zone_records l.zone.sets)) l.names;
}
