-- A zone that is turned into another one by entries of its journal.
use Rattle.std.specs.Prelude.{◌≡◌, ◌⊎◌, ℕ, Bool, List}
use Rattle.wire_messages.specs.declared.rr.rdata.RData.{RData}
use Rattle.wire_messages.specs.declared.rr.rdata.RData.TheVariants as rdata
use Rattle.wire_messages.specs.declared.rr.record.Record.{Record}
use Rattle.hickory_base.specs.zone_store.Serials.{is_greater}
use Rattle.hickory_base.specs.zone_store.ZoneAnswers.{MemoryZone, soa_serial, zone_soa}
use Rattle.hickory_base.specs.zone_store.ZoneSets.{zone_records}
use Rattle.hickory_store.specs.updates.Identity.{SameZone}
use Rattle.sqlite_disk.specs.declared.Disk.{Ghosts as DiskGhosts}
use Rattle.journal.specs.Frames.{StandsFor}
use Rattle.journal.specs.JournalState.{JournalState}
use Rattle.journal.specs.Settled.{IsSettled}
use Rattle.durable_updates.specs.Snapshots.{Recalls}

-- data with this serial, where they are those of an SOA (RFC 1035 section 3.3.13)
abbrev pub numbered_data : ℕ → RData → RData
numbered_data serial (rdata.SOA soa) = rdata.SOA (record soa { serial = serial })
numbered_data serial other = other

abbrev pub numbered : ℕ → Record RData → Record RData
numbered serial r = record r { rdata = numbered_data serial r.rdata }

-- Each record of the one is in the other, with the same TTL (RFC 2136 section 1.1).
abbrev pub AreSame : MemoryZone → MemoryZone → Type 0
AreSame zone other = SameZone (zone_records zone.sets) (zone_records other.sets)

-- the serial of the SOA record at the apex, 0 without one
abbrev pub serial_of : MemoryZone → ℕ
serial_of zone = soa_serial (zone_soa zone)

-- the serial of the other zone is above that of the zone (RFC 1982 section 3.2)
abbrev pub is_above : MemoryZone → MemoryZone → Bool
is_above other zone = is_greater (serial_of other) (serial_of zone)

-- The file stands for entries that make of the first zone the old one, or one that is the same as the other.
pub record LeavesEither (first old other : MemoryZone) (file : List ℕ) : Type 0 where
  pub entries : List (List ℕ)
  pub stands : StandsFor file entries
  pub zone : MemoryZone
  pub recalled : Recalls entries first zone
  pub either : (zone ≡ old) ⊎ AreSame zone other

module _ {D : Type 0} (disks : DiskGhosts D) where
  -- On the disk of the journal are entries that make this zone of the first one.
  pub record Keeps (first zone : MemoryZone) (journal : JournalState D) : Type 0 where
    pub entries : List (List ℕ)
    pub settled : IsSettled disks.seen disks.may_leave journal entries
    pub recalled : Recalls entries first zone
