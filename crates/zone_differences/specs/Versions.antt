-- What leads to a zone from versions that it has had.
use Rattle.std.specs.Prelude.{◌≡◌, ◌⊎◌, ◌∷◌, ◌++◌, List, []}
use Rattle.wire_messages.specs.declared.rr.rdata.RData.{RData}
use Rattle.wire_messages.specs.declared.rr.record.Record.{Record}
use Rattle.hickory_base.specs.zone_store.ZoneAnswers.{MemoryZone}
use Rattle.hickory_base.specs.zone_store.ZoneRecords.{rrset}
use Rattle.hickory_base.specs.zone_store.ZoneSets.{zone_records}
use Rattle.hickory_store.specs.updates.Identity.{SameZone}
use Rattle.zone_differences.specs.Differences.{applied_all}
use Rattle.zone_differences.specs.Histories.{IsKeptUp}
use Rattle.zone_differences.specs.declared.difference.Difference.{Difference}

-- one of the versions is this one
abbrev pub IsAmong : MemoryZone → List MemoryZone → Type 0
IsAmong zone [] = ⊥
IsAmong zone (version ∷ versions) = (zone ≡ version) ⊎ IsAmong zone versions

-- The differences from one on lead from a version that the zone has had to the zone as it is: from that with the SOA of
-- which the first of them speaks.
pub record LeadFrom (versions : List MemoryZone) (difference : Difference) (differences : List Difference) (zone : MemoryZone) : Type 0 where
  pub version : MemoryZone
  pub is_one : IsAmong version versions
  pub soa : rrset (zone_records version.sets) version.origin 6 ≡ difference.old_soa ∷ []
  pub lead : (client : List (Record RData)) → SameZone client (zone_records version.sets) → SameZone (applied_all (difference ∷ differences) client) (zone_records zone.sets)

-- So it is of all differences, from whichever on.
abbrev pub AllLead : List MemoryZone → List Difference → MemoryZone → Type 0
AllLead versions history zone =
    (before behind : List Difference) (difference : Difference) → history ≡ before ++ difference ∷ behind → LeadFrom versions difference behind zone

-- ---- laws

-- Where all lead to a zone, and what becomes of that is recorded, all lead to what it has become.
abbrev pub RecordedLead : Type 0
RecordedLead =
    (versions : List MemoryZone) (old new : MemoryZone) (history after : List Difference)
    → AllLead versions history old → IsKeptUp old new history after → AllLead (old ∷ versions) after new
