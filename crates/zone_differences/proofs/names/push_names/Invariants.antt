-- The names of the front are there.
use Rattle.std.proofs.Common.{◌≡◌, All, true, take}
use Rattle.hickory_base.specs.zone_store.ZoneSets.{zone_records}
use Rattle.zone_differences.specs.Standing.{AreStanding, are_among}
use Rattle.zone_differences.proofs.names.push_names.Given as goal

abbrev pub invariant-loop-r : goal.invariant-loop-r
invariant-loop-r l = record {
  standing : AreStanding (zone_records l.zone.sets) l.fn.names.items → AreStanding (zone_records l.zone.sets) l.names.items;
  there : All (λ r. are_among l.names.items r.name ≡ true) (take l.r-index l.records);
}
