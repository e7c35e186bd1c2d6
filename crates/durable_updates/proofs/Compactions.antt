-- What a crash leaves while a journal is compacted.
use Rattle.std.proofs.Common.{◌≡◌, ◌⊎◌, inl, inr, ◌+◌, ◌<◌, ◌≤◌, ◌^◌, ◌∙◌, ℕ, List, [], ◌∷◌, ◌++◌, Bool, true, false, cond, IsTrue, OnOk, Result, Ok, Err, ap, refl, subst, sym}
use Rattle.std.proofs.lemmas.Bool.{cases_lt}
use Rattle.std.proofs.lemmas.List.{append-nil}
use Rattle.hickory_base.specs.requests.Requests.{ReceivedRequest}
use Rattle.hickory_base.specs.zone_store.ZoneAnswers.{MemoryZone}
use Rattle.hickory_store.specs.updates.UpdateLaws.{HasOneSoa, HoldsIn}
use Rattle.hickory_store.proofs.lemmas.updates.ApexNs.{OfOneType}
use Rattle.hickory_store.proofs.lemmas.updates.SameZones.{Identity}
use Rattle.sqlite_disk.specs.declared.Disk.{Ghosts as DiskGhosts}
use Rattle.journal.specs.Generations.{IsBeingReplaced, StandFor, generation_of, header}
use Rattle.journal.specs.JournalState.{JournalState}
use Rattle.journal.specs.Read.{contents}
use Rattle.journal.specs.Settled.{IsAtRest, IsSettled}
use Rattle.journal.proofs.Pairs.{first_is, second_is}
use Rattle.journal.proofs.Steps.{rests}
use Rattle.durable_updates.specs.Batches.{bytes_of}
use Rattle.durable_updates.specs.Compactions.{CompactionIsKept, Compacts, Files, LeaveZone, Replaces, done, failed, fresh, undone}
use Rattle.durable_updates.specs.Recovering.{AreFound, counting}
use Rattle.durable_updates.specs.declared.recovering.TwoRecovered.{TwoRecovered}
use Rattle.durable_updates.specs.Recorded.{AreRecovered, IsDurable, IsFailed, IsOpen, IsSpare}
use Rattle.durable_updates.specs.Runs.{unused}
use Rattle.durable_updates.specs.Snapshots.{IsSnapshot, Recalls}
use Rattle.durable_updates.specs.declared.compaction.CompactError.{CompactError}
use Rattle.durable_updates.proofs.Entries.{nothing_done}
use Rattle.durable_updates.proofs.Recalled.{fresh_recalled, recalled_once, recalls_itself}

module _ (identity : Identity) (same_type : OfOneType) {D : Type 0} (disks : DiskGhosts D) where
  module _ (first zone : MemoryZone) (generation : ℕ) (snapshot now : List (List ℕ)) (spare replaced : JournalState D) (soa : HoldsIn HasOneSoa first) (made : Recalls now first zone)
      (replaces : Replaces disks zone generation snapshot spare replaced) where
    either : (one two : List ℕ) → StandFor one two now ⊎ StandFor one two (fresh generation snapshot) → LeaveZone first zone one two
    either one two (inl old) = (now, old, λ new p. (recalled_once identity same_type now first new zone soa p made).0)
    either one two (inr new) = (fresh generation snapshot, new, λ after p. fresh_recalled identity same_type generation snapshot first zone after replaces.is_snapshot p)

  pub compaction_is_kept : CompactionIsKept disks
  compaction_is_kept first zone generation snapshot now before journal spare replaced soa made settled spare_settled higher small replaces c d left left_too =
      let stands = rests disks.seen disks.may_leave journal.disk journal.end now settled c left in
      let being = replaces.crash before spare_settled d left_too in (
        λ lower. either first zone generation snapshot now spare replaced soa made replaces c d (second_is now (snapshot ++ [] ∷ []) generation c d before stands lower higher small being),
        λ lower. either first zone generation snapshot now spare replaced soa made replaces d c (first_is now (snapshot ++ [] ∷ []) generation c d before stands lower higher small being),
      )

-- ---- what the calls keep

module _ {D : Type 0} (disks : DiskGhosts D) where
  module _ (zone : MemoryZone) (generation : ℕ) (written entries : List (List ℕ)) (old spare replaced new : JournalState D) (whole : entries ≡ written ++ [] ∷ []) (is : IsSnapshot written zone)
      (open_before : spare.is_open ≡ true) (clean : disks.is_clean replaced.disk ≡ disks.is_clean spare.disk)
      (crash : (before : List (List ℕ)) → IsSettled disks.seen disks.may_leave spare before → (c : List ℕ) → disks.may_leave replaced.disk c → IsBeingReplaced before (header generation ∷ entries) c) (takes : old.is_open ≡ true) (small : generation + 1 < 2 ^ 64) where
    replacing : Replaces disks zone generation written spare replaced
    replacing = record {
      is_snapshot = is;
      was_open = open_before;
      clean = clean;
      crash = λ before s c left. subst (λ (l : List (List ℕ)). IsBeingReplaced before (header generation ∷ l) c) whole (crash before s c left);
    }

    pub is_done : (new_spare : JournalState D) → new ≡ replaced → new_spare ≡ old → replaced.is_open ≡ true
        → ((before : List (List ℕ)) → IsSettled disks.seen disks.may_leave spare before → IsSettled disks.seen disks.may_leave replaced (header generation ∷ entries))
        → Compacts disks zone generation (record { journal = old; spare = spare }) (Ok tt) (record { journal = new; spare = new_spare })
    is_done new_spare same other takes_more settled =
        done written (record { takes = takes; small = small }) (subst (λ (j : JournalState D). Replaces disks zone generation written spare j) (sym same) replacing) other (ap (λ (j : JournalState D). j.is_open) same ∙ takes_more)
        (λ before s. subst (λ (j : JournalState D). IsSettled disks.seen disks.may_leave j (fresh generation written)) (sym same)
        (subst (λ (l : List (List ℕ)). IsSettled disks.seen disks.may_leave replaced (header generation ∷ l)) whole (settled before s)))

    pub is_failed : (e : CompactError) → (replaced.is_open ≡ false) ⊎ ((before : List (List ℕ)) → IsSettled disks.seen disks.may_leave spare before → IsSettled disks.seen disks.may_leave replaced before ⊎ IsSettled disks.seen disks.may_leave replaced [])
        → ((replaced.is_open ≡ true) × (new ≡ old)) ⊎ ((replaced.is_open ≡ false) × (new ≡ record old { is_open = false }))
        → Compacts disks zone generation (record { journal = old; spare = spare }) (Err e) (record { journal = new; spare = replaced })
    is_failed e kept (inr shut) = failed written (record { takes = takes; small = small }) replacing (inl (shut.1, shut.0))
    is_failed e (inr kept) (inl same) = failed written (record { takes = takes; small = small }) replacing (inr (same.1, kept))
    is_failed e (inl shut) (inl same) = absurd (let no : false ≡ true = sym shut ∙ same.0 in cc)

  -- ---- a journal and its spare file

  pub durable_at_start : (first base : MemoryZone) (entries : List (List ℕ)) (journal : JournalState D) → Recalls entries first base → journal.is_open ≡ true
      → (IsTrue (disks.is_clean journal.disk) → IsSettled disks.seen disks.may_leave journal entries) → IsDurable disks base journal
  durable_at_start first base entries journal recalls takes settled clean = (
    first,
    entries,
    base,
    unused,
    recalls,
    record {
      redone = nothing_done base;
      journal_is = inl (record { takes = takes; none = refl; settled = subst (λ (l : List (List ℕ)). IsSettled disks.seen disks.may_leave journal l) (sym (append-nil entries)) (settled clean) });
    },
  )

  spare_of : (zone : MemoryZone) (journal : JournalState D) → IsDurable disks zone journal → IsSpare disks journal
  spare_of zone journal durable clean = let was = durable clean in by (was.1 ++ bytes_of was.3.acknowledged) was.3.in_doubt was.5.journal_is
    where
      by : (entries : List (List ℕ)) (doubt : List ReceivedRequest) → IsOpen disks entries doubt journal ⊎ IsFailed disks entries doubt journal
          → (journal.is_open ≡ false) ⊎ ((entries : List (List ℕ)) × IsSettled disks.seen disks.may_leave journal entries)
      by entries doubt (inl o) = inr (entries, o.settled)
      by entries doubt (inr f) = inl f.shut

  -- it is shut
  pub shut_durable : (zone : MemoryZone) (journal : JournalState D) → IsDurable disks zone journal → IsDurable disks zone (record journal { is_open = false })
  shut_durable zone journal durable clean =
      let was = durable clean in (
        was.0,
        was.1,
        was.2,
        was.3,
        was.4,
        record { redone = was.5.redone; journal_is = inr (by (was.1 ++ bytes_of was.3.acknowledged) was.3.in_doubt was.5.journal_is) },
      )
    where
      by : (entries : List (List ℕ)) (doubt : List ReceivedRequest) → IsOpen disks entries doubt journal ⊎ IsFailed disks entries doubt journal → IsFailed disks entries doubt (record journal { is_open = false })
      by entries doubt (inl o) = record { shut = refl; leaves = λ c left. inl (rests disks.seen disks.may_leave journal.disk journal.end entries o.settled c left) }
      by entries doubt (inr f) = record { shut = refl; leaves = f.leaves }

  -- only a journal that takes entries is compacted, and then takes more
  pub done_open : (zone : MemoryZone) (generation : ℕ) (old : Files D) (result : Result (Unit {0}) CompactError) (new : Files D) → Compacts disks zone generation old result new
      → OnOk result ((old.journal.is_open ≡ true) × (new.journal.is_open ≡ true))
  done_open zone generation old result new undone = tt
  done_open zone generation old result new (done written may replaces other takes settled) = (may.takes, takes)
  done_open zone generation old result new (failed written may replaces left) = tt

  pub stays_shut : (zone : MemoryZone) (generation : ℕ) (old : Files D) (result : Result (Unit {0}) CompactError) (new : Files D) → Compacts disks zone generation old result new
      → old.journal.is_open ≡ false → new.journal.is_open ≡ false
  stays_shut zone generation old result new undone shut = shut
  stays_shut zone generation old result new (done written may replaces other takes settled) shut = absurd (let no : false ≡ true = sym shut ∙ may.takes in cc)
  stays_shut zone generation old result new (failed written may replaces left) shut = absurd (let no : false ≡ true = sym shut ∙ may.takes in cc)

  pub still_durable : (zone : MemoryZone) (generation : ℕ) (old : Files D) (result : Result (Unit {0}) CompactError) (new : Files D) → Compacts disks zone generation old result new
      → IsDurable disks zone old.journal → IsSpare disks old.spare → IsDurable disks zone new.journal × IsSpare disks new.spare
  still_durable zone generation old result new undone durable spare = (durable, spare)
  still_durable zone generation old result new (done written may replaces other takes settled) durable spare = (
    durable_at_start zone zone (fresh generation written) new.journal (recalls_itself generation written zone replaces.is_snapshot) takes
        (λ clean. by (spare (subst IsTrue replaces.clean clean))),
    subst (IsSpare disks) (sym other) (spare_of zone old.journal durable),
  )
    where
      by : (old.spare.is_open ≡ false) ⊎ ((entries : List (List ℕ)) × IsSettled disks.seen disks.may_leave old.spare entries) → IsSettled disks.seen disks.may_leave new.journal (fresh generation written)
      by (inl shut) = absurd (let no : false ≡ true = sym shut ∙ replaces.was_open in cc)
      by (inr s) = settled s.0 s.1
  still_durable zone generation old result new (failed written may replaces (inl shut)) durable spare = (
    subst (IsDurable disks zone) (sym shut.0) (shut_durable zone old.journal durable),
    λ clean. inl shut.1,
  )
  still_durable zone generation old result new (failed written may replaces (inr same)) durable spare = (
    subst (IsDurable disks zone) (sym same.0) durable,
    λ clean. by (spare (subst IsTrue replaces.clean clean)),
  )
    where
      either_way : (entries : List (List ℕ)) → IsSettled disks.seen disks.may_leave new.spare entries ⊎ IsSettled disks.seen disks.may_leave new.spare []
          → (new.spare.is_open ≡ false) ⊎ ((entries : List (List ℕ)) × IsSettled disks.seen disks.may_leave new.spare entries)
      either_way entries (inl s) = inr (entries, s)
      either_way entries (inr s) = inr ([], s)

      by : (old.spare.is_open ≡ false) ⊎ ((entries : List (List ℕ)) × IsSettled disks.seen disks.may_leave old.spare entries)
          → (new.spare.is_open ≡ false) ⊎ ((entries : List (List ℕ)) × IsSettled disks.seen disks.may_leave new.spare entries)
      by (inl shut) = absurd (let no : false ≡ true = sym shut ∙ replaces.was_open in cc)
      by (inr s) = either_way s.0 (same.1 s.0 s.1)

  pub start_durable : (first base : MemoryZone) (entries : List (List ℕ)) (disk : D) (end : ℕ) (journal : JournalState D) → journal ≡ record { disk = disk; end = end; is_open = true } → Recalls entries first base
      → (IsTrue (disks.is_clean disk) → IsAtRest disks.seen disks.may_leave disk end entries) → IsDurable disks base journal
  start_durable first base entries disk end journal is recalls settled =
      durable_at_start first base entries journal recalls (ap (λ (j : JournalState D). j.is_open) is)
      (λ clean. subst (λ (j : JournalState D). IsSettled disks.seen disks.may_leave j entries) (sym is) (settled (subst (λ (j : JournalState D). IsTrue (disks.is_clean j.disk)) is clean)))

  -- ---- two files

  pub stand_for : (first second : D) (found : TwoRecovered) (opened other : D) → AreFound disks first second found opened other → IsTrue (disks.is_clean opened) → IsTrue (disks.is_clean other)
      → StandFor (disks.seen first) (disks.seen second) (contents (counting found).items)
  stand_for first second found opened other are a b = (
    contents found.first.entries.items,
    contents found.second.entries.items,
    are.first_recovers.found a,
    are.second_recovers.found b,
    by found.is_second refl,
  )
    where
      higher : (generation_of (contents found.first.entries.items) < generation_of (contents found.second.entries.items)) ⊎ (generation_of (contents found.second.entries.items) ≤ generation_of (contents found.first.entries.items))
          → found.is_second ≡ false → generation_of (contents found.second.entries.items) ≤ generation_of (contents found.first.entries.items)
      higher (inl low) is = absurd (let no : false ≡ true = sym is ∙ are.counts.1 low in cc)
      higher (inr high) is = high

      by : (s : Bool) → found.is_second ≡ s
          → ((generation_of (contents found.second.entries.items) ≤ generation_of (contents found.first.entries.items)) × (contents (cond found.is_second found.second.entries found.first.entries).items ≡ contents found.first.entries.items))
          ⊎ ((generation_of (contents found.first.entries.items) < generation_of (contents found.second.entries.items)) × (contents (cond found.is_second found.second.entries found.first.entries).items ≡ contents found.second.entries.items))
      by true is = inr (are.counts.0 is, ap (λ (b : Bool). contents (cond b found.second.entries found.first.entries).items) is)
      by false is = inl (higher (cases_lt (generation_of (contents found.first.entries.items)) (generation_of (contents found.second.entries.items))) is, ap (λ (b : Bool). contents (cond b found.second.entries found.first.entries).items) is)

  pub recovered : (first second : D) (found : TwoRecovered) (opened other : D) (base new : MemoryZone) → AreFound disks first second found opened other → Recalls (contents (counting found).items) base new → AreRecovered disks first second base new
  recovered first second found opened other base new are recalls = record {
    opened = opened;
    other = other;
    entries = contents (counting found).items;
    stand = stand_for first second found opened other are;
    recalled = recalls;
    journals = λ a b. (are.first_recovers.journal a, are.second_recovers.journal b);
  }
