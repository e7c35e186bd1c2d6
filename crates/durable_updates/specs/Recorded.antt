-- What a server keeps in memory and on the disk while it serves.
use Rattle.std.specs.Prelude.{◌≡◌, ◌⊎◌, ◌+◌, ◌<◌, ◌^◌, ℕ, true, false, IsTrue, List, [], ◌++◌, Result, Ok}
use Rattle.hickory_base.specs.requests.Requests.{ReceivedRequest}
use Rattle.hickory_base.specs.zone_store.ZoneAnswers.{MemoryZone}
use Rattle.sqlite_disk.specs.declared.Disk.{Ghosts as DiskGhosts}
use Rattle.journal.specs.Frames.{IsBeforeOrAfter}
use Rattle.journal.specs.Generations.{StandFor, generation_of}
use Rattle.journal.specs.JournalState.{JournalState}
use Rattle.journal.specs.Read.{contents}
use Rattle.journal.specs.JournalFile.{IsJournal}
use Rattle.journal.specs.Recovery.{IsLeftAlone, Recovers}
use Rattle.journal.specs.Settled.{IsSettled}
use Rattle.journal.specs.declared.error.RecoverError.{RecoverError}
use Rattle.journal.specs.declared.reading.Recovered.{Recovered}
use Rattle.durable_updates.specs.Batches.{bytes_of}
use Rattle.durable_updates.specs.Redone.{Redone}
use Rattle.durable_updates.specs.Runs.{Life}
use Rattle.durable_updates.specs.Snapshots.{Recalls}

module _ {D : Type 0} (disks : DiskGhosts D) where
  -- The journal takes entries, and these are on the disk.
  pub record IsOpen (entries : List (List ℕ)) (in_doubt : List ReceivedRequest) (journal : JournalState D) : Type 0 where
    pub takes : journal.is_open ≡ true
    pub none : in_doubt ≡ []
    pub settled : IsSettled disks.seen disks.may_leave journal entries

  -- It takes none. Requests of one call are in doubt: each crash leaves these entries, with all of those or without.
  pub record IsFailed (entries : List (List ℕ)) (in_doubt : List ReceivedRequest) (journal : JournalState D) : Type 0 where
    pub shut : journal.is_open ≡ false
    pub leaves : (c : List ℕ) → disks.may_leave journal.disk c → IsBeforeOrAfter entries (bytes_of in_doubt) c

  -- On the disk are the entries from before and those of all requests that were acknowledged since; these make this
  -- zone of the one that was there then.
  pub record IsRecorded (base : MemoryZone) (before : List (List ℕ)) (life : Life) (zone : MemoryZone) (journal : JournalState D) : Type 0 where
    pub redone : Redone (bytes_of life.acknowledged) base zone
    pub journal_is : IsOpen (before ++ bytes_of life.acknowledged) life.in_doubt journal ⊎ IsFailed (before ++ bytes_of life.acknowledged) life.in_doubt journal

  -- So it is for some requests and for the zone that the entries from before make of some first zone, where the disk
  -- told no lie.
  abbrev pub IsDurable : MemoryZone → JournalState D → Type 0
  IsDurable zone journal =
      IsTrue (disks.is_clean journal.disk) → (first : MemoryZone) × (before : List (List ℕ)) × (base : MemoryZone) × (life : Life)
      × Recalls before first base × IsRecorded base before life zone journal

  -- A file that a journal may be compacted into: it takes no entry, or what it has is on the disk.
  abbrev pub IsSpare : JournalState D → Type 0
  IsSpare spare = IsTrue (disks.is_clean spare.disk) → (spare.is_open ≡ false) ⊎ ((entries : List (List ℕ)) × IsSettled disks.seen disks.may_leave spare entries)

  -- The entries of the journal have a lower generation than this one, unless no generation follows it: it is 2^64 - 1.
  abbrev pub IsBelow : JournalState D → ℕ → Type 0
  IsBelow journal generation = IsTrue (disks.is_clean journal.disk) → (journal.is_open ≡ false)
      ⊎ ((entries : List (List ℕ)) × IsSettled disks.seen disks.may_leave journal entries × (generation + 1 < 2 ^ 64 → generation_of entries < generation))

  -- A file that the journal may be compacted into, and the generation that it has then.
  pub record IsNext (journal spare : JournalState D) (generation : ℕ) : Type 0 where
    pub is_spare : IsSpare spare
    pub below : IsBelow journal generation

  -- The zone is the one that the entries which were recovered from this disk make of the first.
  pub record IsRecovered (disk : D) (base new : MemoryZone) : Type 0 where
    pub opened : D
    pub found : Recovered
    pub recovers : Recovers disks.seen disks.may_leave disks.is_clean disk (Ok found) opened
    pub redone : Redone (contents found.entries.items) base new

  -- Both disks were recovered, so that each has a journal's file, and the zone is the one that the entries which count
  -- of them make of the first.
  pub record AreRecovered (first second : D) (base new : MemoryZone) : Type 0 where
    pub opened : D
    pub other : D
    pub entries : List (List ℕ)
    pub stand : IsTrue (disks.is_clean opened) → IsTrue (disks.is_clean other) → StandFor (disks.seen first) (disks.seen second) entries
    pub recalled : Recalls entries base new
    pub journals : IsTrue (disks.is_clean opened) → IsTrue (disks.is_clean other) → IsJournal (disks.seen first) × IsJournal (disks.seen second)

  -- A recovery of this disk, or an attempt at it, has left the other.
  abbrev pub IsOpenedFrom : D → D → Type 0
  IsOpenedFrom disk opened = (result : Result Recovered RecoverError) × Recovers disks.seen disks.may_leave disks.is_clean disk result opened

  -- The disk is as it was, or as a recovery, or an attempt at it, has left it.
  abbrev pub IsHandedBack : D → D → Type 0
  IsHandedBack disk handed = (handed ≡ disk) ⊎ IsOpenedFrom disk handed

  -- What the disk has is no journal's file, where it told no lie, and nothing was written to it.
  pub record IsRefused (disk handed : D) : Type 0 where
    pub none : IsTrue (disks.is_clean handed) → IsJournal (disks.seen disk) → ⊥
    pub left_alone : IsLeftAlone disks.seen disks.may_leave disk handed
