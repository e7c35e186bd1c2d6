-- A zone that takes updates: its records, who may have them, and who may change them.
use Rattle.std.specs.Prelude.{Bool}
use Rattle.hickory_base.specs.zone_store.ZoneAnswers.{MemoryZone}
use Rattle.hickory_base.specs.declared.zone_store.handler.AxfrPolicy.{AxfrPolicy}

pub record UpdatableZone (V : Type 0) : Type 0 where
  pub zone : MemoryZone
  pub axfr_policy : AxfrPolicy
  pub allow_update : Bool
  pub verifier : V
