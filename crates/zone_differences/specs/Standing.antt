-- What stands in a zone before an update, at the names that the update speaks of, and what leads from there to the zone
-- that the update leaves.
use Rattle.std.specs.Prelude.{◌≡◌, ◌∷◌, All, Bool, true, IfOk, IfSome, List, [], filter, Option, Result, Ok}
use Rattle.std.specs.List.{AllByRecursion, list_any}
use Rattle.std.specs.declared.alloc.AllocError.{AllocError}
use Rattle.wire_names.specs.rr.domain.DomainName.{DomainName}
use Rattle.wire_names.specs.rr.domain.NameOrder.{name_eq}
use Rattle.wire_messages.specs.declared.rr.rdata.RData.{RData}
use Rattle.wire_messages.specs.declared.rr.record.Record.{Record}
use Rattle.hickory_base.specs.zone_store.ZoneAnswers.{MemoryZone}
use Rattle.hickory_base.specs.zone_store.ZoneRecords.{rrset}
use Rattle.hickory_base.specs.zone_store.ZoneSets.{zone_records}
use Rattle.hickory_store.specs.updates.NameUpdates.{of_name}
use Rattle.hickory_store.specs.updates.UpdateAnswers.{Updates, applied}
use Rattle.zone_differences.specs.Differences.{IsDifferenceOf, is_changed}
use Rattle.zone_differences.specs.Histories.{IsRecorded}
use Rattle.zone_differences.specs.declared.before.Before.{Before}
use Rattle.zone_differences.specs.declared.difference.Difference.{Difference}
use Rattle.zone_differences.specs.declared.names.NameRecords.{NameRecords}

-- one of the names is this one
abbrev pub are_among : List NameRecords → DomainName → Bool
are_among names name = list_any (λ e. name_eq e.name name) names

-- each name has the records that the zone has of it
abbrev pub AreStanding : List (Record RData) → List NameRecords → Type 0
AreStanding zone names = AllByRecursion (λ e. e.records ≡ of_name e.name zone) names

-- what was among the names stays there
abbrev pub Keeps : List NameRecords → List NameRecords → Type 0
Keeps old new = (name : DomainName) → are_among old name ≡ true → are_among new name ≡ true

-- What stands in a zone before an update of these records: its one SOA, and the records of the apex and of each name
-- that the update speaks of.
pub record IsBefore (zone : MemoryZone) (updates : List (Record RData)) (before : Before) : Type 0 where
  pub soa : rrset (zone_records zone.sets) zone.origin 6 ≡ before.soa ∷ []
  pub standing : AreStanding (zone_records zone.sets) before.names.items
  pub apex : are_among before.names.items zone.origin ≡ true
  pub others : All (λ r. are_among before.names.items r.name ≡ true) updates

-- of a name with the records that it had, those that went, and those that came, in the zone that now is
abbrev pub went : DomainName → List (Record RData) → NameRecords → List (Record RData)
went origin zone e = filter (is_changed origin e.records (of_name e.name zone)) e.records

abbrev pub came : DomainName → List (Record RData) → NameRecords → List (Record RData)
came origin zone e = filter (is_changed origin e.records (of_name e.name zone)) (of_name e.name zone)

-- These records of an update section were done to the zone by the RFCs, and changed it (RFC 2136 sections 3.4.2 and
-- 3.6).
abbrev pub IsChangedBy : List (Record RData) → MemoryZone → MemoryZone → Type 0
IsChangedBy updates old new = Updates (applied true old.origin (zone_records old.sets) updates true) (Ok true) old new

-- An update may have left the zone `new`. Of each zone that it was made in, where that stood there before, the
-- difference leads from that zone to this one.
abbrev pub Leads : Before → MemoryZone → Difference → Type 0
Leads before new difference =
    (old : MemoryZone) (updates : List (Record RData)) → IsBefore old updates before → IsChangedBy updates old new → IsDifferenceOf old new difference

-- what stood in a zone before an update of these records, if that is known
abbrev pub IsKnown : MemoryZone → List (Record RData) → Result (Option Before) AllocError → Type 0
IsKnown zone updates before = IfOk before (λ found. IfSome found (IsBefore zone updates))

-- An update may have left the zone `new`. Of each zone that it was made in, where that stood there before, what it
-- changed is recorded.
abbrev pub Records : Result (Option Before) AllocError → MemoryZone → List Difference → List Difference → Type 0
Records before new history after =
    (old : MemoryZone) (updates : List (Record RData)) → IsKnown old updates before → IsChangedBy updates old new → IsRecorded old new history after
