-- A zone with a journal that holds updates: they are made in memory, and wait to be written together. What one call
-- does to zone and entries say the contracts of `update_held` and `write_held`, and that these make a batch of a run
-- `Held`; an invariant alone cannot, as it does not know the messages of entries.
use Rattle.std.specs.Prelude.{◌≡◌, ℕ, Bool, IfSome, List, Option, Some, None, false}
use Rattle.hickory_base.specs.requests.Requests.{ReceivedRequest}
use Rattle.hickory_base.specs.zone_store.ZoneAnswers.{MemoryZone}
use Rattle.hickory_store.specs.updates.UpdatableZone.{UpdatableZone}
use Rattle.sqlite_disk.specs.declared.Disk.{Ghosts as DiskGhosts}
use Rattle.journal.specs.JournalState.{JournalState}
use Rattle.durable_updates.specs.Batches.{bytes_of}
use Rattle.durable_updates.specs.Recorded.{IsDurable, IsSpare}
use Rattle.durable_updates.specs.ReadRequests.{AreRead}
use Rattle.durable_updates.specs.Redone.{Redone}

-- a zone as it is in memory, whether it holds updates, and whether its journal takes entries
pub record ZoneInMemory (V : Type 0) : Type 0 where
  pub updatable : UpdatableZone V
  pub holds : Bool
  pub takes_entries : Bool

module _ {D : Type 0} (disks : DiskGhosts D) where
  -- These entries are requests that wait to be written: done to a zone that the journal keeps, they make this one.
  pub record IsAhead (zone : MemoryZone) (journal : JournalState D) (entries : List (List ℕ)) : Type 0 where
    pub requests : List ReceivedRequest
    pub are : entries ≡ bytes_of requests
    pub read : AreRead requests
    pub written : MemoryZone
    pub durable : IsDurable disks written journal
    pub made : Redone (bytes_of requests) written zone

  -- Where nothing is held, the journal keeps the zone; else that and what waits to be written make it.
  abbrev pub IsKeptBut : MemoryZone → JournalState D → Option (List (List ℕ)) → Type 0
  IsKeptBut zone journal None = IsDurable disks zone journal
  IsKeptBut zone journal (Some entries) = IsAhead zone journal entries

  -- A journal in the one file keeps the zone, unless this holds updates. The other file, if there is one, is what the
  -- journal may be compacted into.
  pub record AreFilesOf (holds : Bool) (zone : MemoryZone) (file : D) (other : Option D) : Type 0 where
    pub journal : JournalState D
    pub in_file : journal.disk ≡ file
    pub durable : holds ≡ false → IsDurable disks zone journal
    pub spare : IfSome other (λ disk. (spare : JournalState D) × (spare.disk ≡ disk) × IsSpare disks spare)
