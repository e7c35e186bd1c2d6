-- Clients that follow a zone by differences (RFC 1995).
use Rattle.std.specs.Prelude.{◌∷◌, List}
use Rattle.hickory_base.specs.requests.Requests.{TimedRequest}
use Rattle.hickory_base.specs.zone_store.Lookups.{SignerContext, UpdateResult}
use Rattle.hickory_base.specs.zone_store.ZoneAnswers.{MemoryZone}
use Rattle.hickory_store.specs.declared.updates.verifier.Verifier.{Ghosts}
use Rattle.zone_differences.specs.Versions.{AllLead}
use Rattle.zones.specs.ZoneStates.{ZoneState}
use Rattle.zones.specs.ZoneUpdates.{Updates}

module _ {V : Type 0} (by : Ghosts V) where
  -- Since the zone was loaded, or its journal was opened, it has answered updates. These versions it has had before,
  -- the last first. The differences that it kept at the beginning led to it from these versions: a zone that was loaded
  -- kept none, and one whose journal was opened had the versions that the journal tells of.
  pub data Serves (first : ZoneState V) : List MemoryZone → ZoneState V → Type 0 where
    begun : {versions : List MemoryZone} → AllLead versions first.history first.updatable.zone → Serves first versions first
    answered : {versions : List MemoryZone} {old new : ZoneState V} (request : TimedRequest) (answer : UpdateResult) (context : SignerContext)
        → Serves first versions old → Updates by old request answer context new → Serves first (old.updatable.zone ∷ versions) new

  -- All differences that the zone keeps, from whichever on, lead from a version that it has had to the zone as it is.
  abbrev pub DifferencesLead : Type 0
  DifferencesLead =
      (first zone : ZoneState V) (versions : List MemoryZone) → Serves first versions zone → AllLead versions zone.history zone.updatable.zone
