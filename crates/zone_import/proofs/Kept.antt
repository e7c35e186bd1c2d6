-- What a journal keeps while a zone is turned into another one.
use Rattle.std.proofs.Common.{◌≡◌, ◌∙◌, ap, inl, inr, refl, subst, sym, ℕ, List, ◌++◌}
use Rattle.wire_messages.specs.declared.rr.rdata.RData.{RData}
use Rattle.wire_messages.specs.declared.rr.record.Record.{Record}
use Rattle.wire_messages.specs.declared.rr.rr_key.RrKey.{RrKey}
use Rattle.hickory_base.specs.zone_store.ZoneAnswers.{MemoryZone}
use Rattle.sqlite_disk.specs.declared.Disk.{Ghosts as DiskGhosts}
use Rattle.journal.specs.Frames.{IsBeforeOrAfter}
use Rattle.journal.specs.JournalState.{JournalState}
use Rattle.journal.specs.Settled.{IsSettled}
use Rattle.journal.proofs.Steps.{rests}
use Rattle.durable_updates.specs.Redone.{Redone}
use Rattle.durable_updates.proofs.Made.{recalls_more, redone_others}
use Rattle.zone_import.specs.Imports.{AreSame, Keeps, LeavesEither}

-- the sets of the zone that is reached, in the place of its own, make it that zone
pub turned : (entries : List (List ℕ)) (old ahead new : MemoryZone) (sets : List (RrKey × List (Record RData))) → Redone entries old ahead → new ≡ record old { sets = sets } → sets ≡ ahead.sets → new ≡ ahead
turned entries old ahead new sets done is same = is ∙ ap (λ (s : List (RrKey × List (Record RData))). record old { sets = s }) same ∙ sym (redone_others entries old ahead done)

module _ {D : Type 0} (disks : DiskGhosts D) (first old other : MemoryZone) (was : JournalState D) (keeps : Keeps disks first old was) where
  -- a journal that is left alone
  pub left_alone : (c : List ℕ) → disks.may_leave was.disk c → LeavesEither first old other c
  left_alone c left = record {
    entries = keeps.entries;
    stands = rests disks.seen disks.may_leave was.disk was.end keeps.entries keeps.settled c left;
    zone = old;
    recalled = keeps.recalled;
    either = inl refl;
  }

  module _ (entries : List (List ℕ)) (ahead : MemoryZone) (done : Redone entries old ahead) where
    -- one to which the entries are added, or not
    pub one_or_other : AreSame ahead other → (c : List ℕ) → IsBeforeOrAfter keeps.entries entries c → LeavesEither first old other c
    one_or_other same c (inl stands) = record { entries = keeps.entries; stands = stands; zone = old; recalled = keeps.recalled; either = inl refl }
    one_or_other same c (inr stands) = record {
      entries = keeps.entries ++ entries;
      stands = stands;
      zone = ahead;
      recalled = recalls_more keeps.entries entries first old ahead keeps.recalled done;
      either = inr same;
    }

    -- one to which they are added
    pub added : (new : MemoryZone) (is : JournalState D) → new ≡ ahead → IsSettled disks.seen disks.may_leave is (keeps.entries ++ entries) → Keeps disks first new is
    added new is turned settled = record {
      entries = keeps.entries ++ entries;
      settled = settled;
      recalled = recalls_more keeps.entries entries first old new keeps.recalled (subst (λ (z : MemoryZone). Redone entries old z) (sym turned) done);
    }
