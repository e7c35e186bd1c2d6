-- A journal keeps what it kept when all operations of its file are done, and when it is shut.
use Rattle.std.proofs.Common.{◌≡◌, ◌⊎◌, inl, inr, ◌∙◌, sym, subst, ℕ, ◌+◌, ◌<◌, ◌^◌, List, ◌++◌, IsTrue, Option, None, Some, false}
use Rattle.hickory_base.specs.requests.Requests.{ReceivedRequest}
use Rattle.hickory_base.specs.zone_store.ZoneAnswers.{MemoryZone}
use Rattle.sqlite_disk.specs.declared.Disk.{Ghosts as DiskGhosts}
use Rattle.journal.specs.Generations.{generation_of}
use Rattle.journal.specs.JournalState.{JournalState}
use Rattle.journal.specs.Settled.{IsSettled}
use Rattle.durable_updates.specs.Batches.{bytes_of}
use Rattle.durable_updates.specs.Holding.{IsKeptBut}
use Rattle.durable_updates.specs.Recorded.{IsBelow, IsDurable, IsFailed, IsOpen, IsSpare}

-- a journal that keeps each zone which another one keeps
pub kept_by : {D : Type 0} (disks : DiskGhosts D) (old new : JournalState D) → ((zone : MemoryZone) → IsDurable disks zone old → IsDurable disks zone new)
    → (zone : MemoryZone) (held : Option (List (List ℕ))) → IsKeptBut disks zone old held → IsKeptBut disks zone new held
kept_by disks old new keeps zone None durable = keeps zone durable
kept_by disks old new keeps zone (Some entries) ahead =
    record { requests = ahead.requests; are = ahead.are; read = ahead.read; written = ahead.written; durable = keeps ahead.written ahead.durable; made = ahead.made }

module _ {D : Type 0} (disks : DiskGhosts D) (old new : JournalState D) (takes : new.is_open ≡ old.is_open) (end : new.end ≡ old.end) (seen : disks.seen new.disk ≡ disks.seen old.disk)
    (crash : (c : List ℕ) → disks.may_leave new.disk c → disks.may_leave old.disk c) (clean : disks.is_clean new.disk ≡ disks.is_clean old.disk) where
  settled_too : (entries : List (List ℕ)) → IsSettled disks.seen disks.may_leave old entries → IsSettled disks.seen disks.may_leave new entries
  settled_too entries s = record {
    gate = s.gate;
    junk = s.junk;
    closed = s.closed;
    file = seen ∙ s.file;
    place = end ∙ s.place;
    small = s.small;
    durable = λ c left. s.durable c (crash c left) ∙ sym seen;
  }

  pub durable_too : (zone : MemoryZone) → IsDurable disks zone old → IsDurable disks zone new
  durable_too zone durable is =
      let was = durable (subst IsTrue clean is) in (
        was.0,
        was.1,
        was.2,
        was.3,
        was.4,
        record { redone = was.5.redone; journal_is = by (was.1 ++ bytes_of was.3.acknowledged) was.3.in_doubt was.5.journal_is },
      )
    where
      by : (entries : List (List ℕ)) (doubt : List ReceivedRequest) → IsOpen disks entries doubt old ⊎ IsFailed disks entries doubt old → IsOpen disks entries doubt new ⊎ IsFailed disks entries doubt new
      by entries doubt (inl o) = inl (record { takes = takes ∙ o.takes; none = o.none; settled = settled_too entries o.settled })
      by entries doubt (inr f) = inr (record { shut = takes ∙ f.shut; leaves = λ c left. f.leaves c (crash c left) })

  pub below_too : (generation : ℕ) → IsBelow disks old generation → IsBelow disks new generation
  below_too generation below is = by (below (subst IsTrue clean is))
    where
      by : (old.is_open ≡ false) ⊎ ((entries : List (List ℕ)) × IsSettled disks.seen disks.may_leave old entries × (generation + 1 < 2 ^ 64 → generation_of entries < generation))
          → (new.is_open ≡ false) ⊎ ((entries : List (List ℕ)) × IsSettled disks.seen disks.may_leave new entries × (generation + 1 < 2 ^ 64 → generation_of entries < generation))
      by (inl shut) = inl (takes ∙ shut)
      by (inr s) = inr (s.0, settled_too s.0 s.1, s.2)

  pub spare_too : IsSpare disks old → IsSpare disks new
  spare_too spare is = by (spare (subst IsTrue clean is))
    where
      by : (old.is_open ≡ false) ⊎ ((entries : List (List ℕ)) × IsSettled disks.seen disks.may_leave old entries) → (new.is_open ≡ false) ⊎ ((entries : List (List ℕ)) × IsSettled disks.seen disks.may_leave new entries)
      by (inl shut) = inl (takes ∙ shut)
      by (inr s) = inr (s.0, settled_too s.0 s.1)
