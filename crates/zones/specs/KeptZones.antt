-- What keeps the records of a zone: memory, or a journal too.
use Rattle.std.specs.Prelude.{Bool, false, true}
use Rattle.hickory_store.specs.updates.UpdatableZone.{UpdatableZone}
use Rattle.zones.specs.declared.kept.Kept.{Kept}
use Rattle.zones.specs.declared.kept.Kept.TheVariants.{Journal, Memory}

-- The zone as it is in memory; whether it has a journal; whether it holds updates, which wait to be written to the
-- journal; and whether it has a journal that takes entries.
pub record KeptZone (V : Type 0) : Type 0 where
  pub updatable : UpdatableZone V
  pub is_journalled : Bool
  pub holds : Bool
  pub takes_entries : Bool

abbrev pub kept_zone : {V D : Type 0} → Kept V D → KeptZone V
kept_zone (Memory zone) = record { updatable = zone; is_journalled = false; holds = false; takes_entries = false }
kept_zone (Journal zone) = record { updatable = zone.updatable; is_journalled = true; holds = zone.holds; takes_entries = zone.takes_entries }
