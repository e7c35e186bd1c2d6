-- The zone of a journal: that of a zone file, that after entries, and the one that it is turned into.
use Rattle.std.specs.Prelude.{◌≡◌, ◌++◌, ◌+◌, ◌%◌, ◌^◌, [], ℕ, Bool, true, false, List, Option, Some, None, codes, map}
use Rattle.wire_names.specs.rr.domain.DomainName.{DomainName}
use Rattle.wire_names.specs.rr.domain.NameText.{IsNameText}
use Rattle.wire_messages.specs.declared.rr.rdata.RData.{RData}
use Rattle.wire_messages.specs.declared.rr.record.Record.{Record}
use Rattle.zone_text.specs.Included.{IsZoneWithFiles}
use Rattle.hickory_base.specs.zone_store.ZoneAnswers.{MemoryZone}
use Rattle.hickory_base.specs.zone_store.ZoneSets.{zone_records}
use Rattle.hickory_base.specs.declared.zone_store.handler.AxfrPolicy.TheVariants.{Deny}
use Rattle.hickory_base.specs.declared.zone_store.handler.ZoneType.TheVariants.{Primary}
use Rattle.hickory_store.specs.file.RecordZones.{IsZoneOf}
use Rattle.hickory_store.specs.updates.Identity.{SameZone}
use Rattle.durable_updates.specs.Snapshots.{Recalls}
use Rattle.zone_import.specs.Imports.{AreSame, numbered, serial_of}

-- The text is the name of an apex: a name with or without a dot at its end, or for the root a single dot (RFC 1035
-- section 5.1).
pub data IsApexText (text : List ℕ) (apex : DomainName) : Type 0 where
  by_dot : text ≡ codes "." → apex ≡ record { labels = []; is_fqdn = true } → IsApexText text apex
  by_name : (name : DomainName) → IsNameText text name → apex ≡ record name { is_fqdn = true } → IsApexText text apex

-- It is the zone of the records that the text of a zone file has with the files that it includes, if these are their bytes.
abbrev pub IsZoneOfFiles : (List ℕ → List ℕ → Type 0) → DomainName → List ℕ → MemoryZone → Type 0
IsZoneOfFiles opens apex text zone = (records : List (Record RData)) × IsZoneWithFiles opens apex text records × IsZoneOf apex Primary Deny records zone

-- It is the zone after all entries, or where it first has a serial.
abbrev pub IsZoneAfter : List (List ℕ) → MemoryZone → Option ℕ → MemoryZone → Type 0
IsZoneAfter entries first None zone = Recalls entries first zone
IsZoneAfter entries first (Some serial) zone = (done : List (List ℕ)) × (rest : List (List ℕ)) × (entries ≡ done ++ rest)
    × Recalls done first zone × (serial_of zone ≡ serial)

-- It has the records of a zone, but this serial.
abbrev pub IsNumbered : ℕ → MemoryZone → MemoryZone → Type 0
IsNumbered serial zone made = SameZone (zone_records made.sets) (map (numbered serial) (zone_records zone.sets))

-- Two zones have the same records but for the serial of the other one.
abbrev pub AreSameButSerial : MemoryZone → MemoryZone → Type 0
AreSameButSerial zone other = (made : MemoryZone) × IsNumbered (serial_of zone) other made × AreSame zone made

-- A zone is turned into another one; or into that with the next serial of its own (RFC 1982 section 3.1).
abbrev pub IsTurned : Bool → MemoryZone → MemoryZone → MemoryZone → Type 0
IsTurned false old other new = AreSame new other
IsTurned true old other new = (made : MemoryZone) × IsNumbered ((serial_of old + 1) % 2 ^ 32) other made × AreSame new made
