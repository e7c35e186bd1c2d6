-- A zone that takes updates (RFC 2136).
use Rattle.std.specs.Prelude.{Bool, List}
use Rattle.hickory_store.specs.updates.UpdatableZone.{UpdatableZone}
use Rattle.update_policy.specs.declared.policy.Rule.{Rule}
use Rattle.zone_differences.specs.declared.difference.Difference.{Difference}
use Rattle.zones.specs.KeptZones.{KeptZone}

-- The zone as it is in memory; whether it has a journal; whether it holds updates, which wait to be written to the
-- journal; the differences that led to it from earlier versions, the oldest first (RFC 1995 section 5); and the rules
-- of who may update what (RFC 2136 section 3.3).
pub record ZoneState (V : Type 0) : Type 0 where
  pub updatable : UpdatableZone V
  pub is_journalled : Bool
  pub holds : Bool
  pub history : List Difference
  pub policy : List Rule

abbrev pub zone_state : {V : Type 0} → KeptZone V → List Difference → List Rule → ZoneState V
zone_state kept history policy =
    record { updatable = kept.updatable; is_journalled = kept.is_journalled; holds = kept.holds; history = history; policy = policy }
