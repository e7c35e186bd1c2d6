-- The sets are those of a zone where the sets to come are.
use Rattle.std.proofs.Common.{◌↔◌}
use Rattle.hickory_base.specs.zone_store.ZoneSets.{IsZone, sets_of, shared_sets}
use Rattle.hickory_base.proofs.zone_store.conditions.is_zone.Given as goal

abbrev pub invariant-loop-key : goal.invariant-loop-key
invariant-loop-key l = IsZone (shared_sets l.key-iterator) ↔ IsZone (sets_of l.sets)
