-- The zone that records make (RFC 1035 section 5.2), or why they make none.
use Rattle.std.specs.Prelude.{◌≡◌, ◌<◌, ◌+◌, List, [], ◌∷◌, ◌++◌, length, Option, Some, None}
use Rattle.std.specs.List.{AllByRecursion}
use Rattle.std.specs.Map.{lookup}
use Rattle.wire_names.specs.rr.domain.DomainName.{DomainName}
use Rattle.wire_names.specs.rr.domain.NameOrder.{Encloses, SameName, lower_name}
use Rattle.wire_messages.specs.Numbers.{type_soa}
use Rattle.wire_messages.specs.rr.RecordData.{type_of}
use Rattle.wire_messages.specs.declared.rr.rdata.RData.{RData}
use Rattle.wire_messages.specs.declared.rr.record.Record.{Record}
use Rattle.wire_messages.specs.declared.rr.rr_key.RrKey.{RrKey}
use Rattle.hickory_base.specs.zone_store.ZoneAnswers.{MemoryZone}
use Rattle.hickory_base.specs.zone_store.ZoneRecords.{rrset}
use Rattle.hickory_base.specs.zone_store.ZoneSets.{IsSoaData, is_key}
use Rattle.hickory_base.specs.declared.zone_store.handler.AxfrPolicy.{AxfrPolicy}
use Rattle.hickory_base.specs.declared.zone_store.handler.ZoneType.{ZoneType}
use Rattle.hickory_store.specs.file.FirstRecords.{first_records}
use Rattle.hickory_store.specs.representation.ZoneSets.{HoldsSets}
use Rattle.hickory_store.specs.declared.file.zones.RecordFault.{RecordFault}
use Rattle.hickory_store.specs.declared.file.zones.RecordFault.TheVariants.{NoSoaData, Outside, SoaBelowApex}
use Rattle.hickory_store.specs.declared.file.zones.RecordsError.{RecordsError}
use Rattle.hickory_store.specs.declared.file.zones.RecordsError.TheVariants as error

-- What is wrong with a record in the zone of an apex. Its owner name is the apex or below it; type SOA is for the apex
-- alone, with the data of an SOA record.
abbrev pub IsRecordFault : DomainName → Record RData → Option RecordFault → Type 0
IsRecordFault apex r None = Encloses apex.labels r.name.labels × (type_of r.rdata ≡ type_soa → SameName r.name apex × IsSoaData r.rdata)
IsRecordFault apex r (Some Outside) = ¬ (Encloses apex.labels r.name.labels)
IsRecordFault apex r (Some SoaBelowApex) = Encloses apex.labels r.name.labels × (type_of r.rdata ≡ type_soa) × (¬ (SameName r.name apex))
IsRecordFault apex r (Some NoSoaData) = Encloses apex.labels r.name.labels × (type_of r.rdata ≡ type_soa) × SameName r.name apex × (¬ (IsSoaData r.rdata))

-- nothing is wrong with any of the records
abbrev pub AreOfZone : DomainName → List (Record RData) → Type 0
AreOfZone apex records = AllByRecursion (λ r. IsRecordFault apex r None) records

-- the SOA records at the apex, if there are any
abbrev pub soas : DomainName → List (Record RData) → List (Record RData)
soas apex records = rrset (first_records records) (lower_name apex) type_soa

abbrev pub soa_set : DomainName → List (RrKey × List (Record RData)) → Option (List (Record RData))
soa_set apex sets = lookup (is_key (lower_name apex) type_soa) sets

-- a set of one record
abbrev pub HasOne : Option (List (Record RData)) → Type 0
HasOne None = ⊥
HasOne (Some set) = length set ≡ 1

-- what is wrong with the SOA records of a set, or without one
abbrev pub IsSoaFault : Option (List (Record RData)) → RecordsError → Type 0
IsSoaFault None error.NoSoa = Unit {0}
IsSoaFault None error.Memory = Unit {0}
IsSoaFault None other = ⊥
IsSoaFault (Some set) error.SeveralSoas = ¬ (length set ≡ 1)
IsSoaFault (Some set) error.Memory = Unit {0}
IsSoaFault (Some set) other = ⊥

-- Why the records make no zone of this apex: the first that is wrong, which is told by its number from 1 on; or where
-- each is right, that no SOA record stands at the apex, or more than one.
abbrev pub IsRecordsFault : DomainName → List (Record RData) → RecordsError → Type 0
IsRecordsFault apex records (error.Record number fault) = (front : List (Record RData)) × (r : Record RData) × (behind : List (Record RData)) × (records ≡ front ++ r ∷ behind)
    × (number ≡ length front + 1) × AreOfZone apex front × IsRecordFault apex r (Some fault)
IsRecordsFault apex records error.NoSoa = AreOfZone apex records × (soas apex records ≡ [])
IsRecordsFault apex records error.SeveralSoas = AreOfZone apex records × (1 < length (soas apex records))
IsRecordsFault apex records error.Memory = Unit {0}

-- The zone of the records: each is right, one SOA record stands at the apex, and the zone has the RRsets of the
-- records, of which each counts once.
pub record IsZoneOf (apex : DomainName) (zone_type : ZoneType) (axfr_policy : AxfrPolicy) (records : List (Record RData)) (zone : MemoryZone) : Type 0 where
  pub right : AreOfZone apex records
  pub one_soa : length (soas apex records) ≡ 1
  pub origin : zone.origin ≡ lower_name apex
  pub kind : zone.zone_type ≡ zone_type
  pub policy : zone.axfr_policy ≡ axfr_policy
  pub sets : HoldsSets (first_records records) zone.sets
