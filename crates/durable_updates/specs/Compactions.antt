-- What becomes of two files while the one is compacted into the other.
use Rattle.std.specs.Prelude.{◌≡◌, ◌⊎◌, ◌+◌, ◌<◌, ◌≤◌, ◌^◌, ℕ, true, false, List, [], Result, Ok, Err}
use Rattle.hickory_base.specs.zone_store.ZoneAnswers.{MemoryZone}
use Rattle.hickory_base.specs.zone_store.ZoneSets.{zone_records}
use Rattle.hickory_store.specs.updates.Identity.{SameZone}
use Rattle.hickory_store.specs.updates.UpdateLaws.{HasOneSoa, HoldsIn}
use Rattle.sqlite_disk.specs.declared.Disk.{Ghosts as DiskGhosts}
use Rattle.journal.specs.Generations.{IsBeingReplaced, StandFor, generation_of, header}
use Rattle.journal.specs.JournalState.{JournalState}
use Rattle.journal.specs.Settled.{IsSettled}
use Rattle.durable_updates.specs.Snapshots.{IsSnapshot, Recalls, compacted}
use Rattle.durable_updates.specs.declared.compaction.CompactError.{CompactError}

-- the entries of a file that was just compacted
abbrev pub fresh : ℕ → List (List ℕ) → List (List ℕ)
fresh generation snapshot = compacted (header generation) snapshot []

-- a journal, and the file that it is compacted into next
pub record Files (D : Type 0) : Type 0 where
  pub journal : JournalState D
  pub spare : JournalState D

module _ {D : Type 0} (disks : DiskGhosts D) where
  -- The spare file is replaced by a snapshot of the zone. At each moment a crash leaves it with its entries from
  -- before, with none, or with all of the new ones.
  pub record Replaces (zone : MemoryZone) (generation : ℕ) (snapshot : List (List ℕ)) (old new : JournalState D) : Type 0 where
    pub is_snapshot : IsSnapshot snapshot zone
    pub was_open : old.is_open ≡ true
    pub clean : disks.is_clean new.disk ≡ disks.is_clean old.disk
    pub crash : (before : List (List ℕ)) → IsSettled disks.seen disks.may_leave old before → (c : List ℕ) → disks.may_leave new.disk c → IsBeingReplaced before (fresh generation snapshot) c

  -- Only a journal that takes entries is compacted, and not into the last generation, 2^64 - 1.
  pub record MayCompact (generation : ℕ) (old : Files D) : Type 0 where
    pub takes : old.journal.is_open ≡ true
    pub small : generation + 1 < 2 ^ 64

  -- What a compaction answers and leaves: nothing was done; or the spare file has the snapshot, and is the journal's
  -- from now on; or it was not replaced to the end. Then it is not known for what it stands, and the journal takes no
  -- entry any more; or it has its entries from before, or none.
  pub data Compacts (zone : MemoryZone) (generation : ℕ) (old : Files D) : Result (Unit {0}) CompactError → Files D → Type 0 where
    undone : {e : CompactError} → Compacts zone generation old (Err e) old
    done : {t : Unit {0}} {new : Files D} (snapshot : List (List ℕ)) → MayCompact generation old → Replaces zone generation snapshot old.spare new.journal → new.spare ≡ old.journal → new.journal.is_open ≡ true
        → ((before : List (List ℕ)) → IsSettled disks.seen disks.may_leave old.spare before → IsSettled disks.seen disks.may_leave new.journal (fresh generation snapshot)) → Compacts zone generation old (Ok t) new
    failed : {e : CompactError} {new : Files D} (snapshot : List (List ℕ)) → MayCompact generation old → Replaces zone generation snapshot old.spare new.spare
        → ((new.journal ≡ record old.journal { is_open = false }) × (new.spare.is_open ≡ false))
        ⊎ ((new.journal ≡ old.journal) × ((before : List (List ℕ)) → IsSettled disks.seen disks.may_leave old.spare before → IsSettled disks.seen disks.may_leave new.spare before ⊎ IsSettled disks.seen disks.may_leave new.spare []))
        → Compacts zone generation old (Err e) new

-- Two files stand for entries that make this zone of the first one, whoever does them.
abbrev pub LeaveZone : MemoryZone → MemoryZone → List ℕ → List ℕ → Type 0
LeaveZone first zone one two =
    (entries : List (List ℕ)) × StandFor one two entries × ((new : MemoryZone) → Recalls entries first new → SameZone (zone_records new.sets) (zone_records zone.sets))

module _ {D : Type 0} (disks : DiskGhosts D) where
  -- While a journal whose entries make a zone is compacted into a spare file of a lower generation, a crash at any
  -- moment leaves two files that stand for entries which make that zone: those from before, or the snapshot. The spare
  -- file is the second one, or the first; that one's generation is lower.
  abbrev pub CompactionIsKept : Type 0
  CompactionIsKept =
      (first zone : MemoryZone) (generation : ℕ) (snapshot now before : List (List ℕ)) (journal spare replaced : JournalState D)
      → HoldsIn HasOneSoa first → Recalls now first zone
      → IsSettled disks.seen disks.may_leave journal now → IsSettled disks.seen disks.may_leave spare before
      → generation_of now < generation → generation < 2 ^ 64 → Replaces disks zone generation snapshot spare replaced
      → (c d : List ℕ) → disks.may_leave journal.disk c → disks.may_leave replaced.disk d
      → (generation_of before ≤ generation_of now → LeaveZone first zone c d) × (generation_of before < generation_of now → LeaveZone first zone d c)
