-- The entries of a journal keep a lower generation than the file that it is compacted into next.
use Rattle.std.proofs.Common.{◌≡◌, ◌⊎◌, inl, inr, ◌+◌, ◌<◌, ◌^◌, ◌∙◌, ℕ, List, [], ◌∷◌, ◌++◌, IfErr, IfOk, IfSome, IsTrue, OnErr, OnOk, Option, None, Some, Result, Ok, Err, Bool, false, true, arith, refl, subst, sym}
use Rattle.std.proofs.lemmas.Nat.{from_be_bytes-to_be_bytes_8}
use Rattle.hickory_base.specs.requests.Requests.{ReceivedRequest}
use Rattle.hickory_base.specs.zone_store.ZoneAnswers.{MemoryZone}
use Rattle.hickory_store.specs.declared.updates.verifier.Verifier.{Ghosts}
use Rattle.sqlite_disk.specs.declared.Disk.{Ghosts as DiskGhosts}
use Rattle.journal.specs.Generations.{generation_of}
use Rattle.journal.specs.JournalState.{JournalState}
use Rattle.journal.specs.Settled.{IsAtRest, IsSettled}
use Rattle.durable_updates.specs.Batches.{accepted, bytes_of}
use Rattle.durable_updates.specs.DurableUpdates.{Told}
use Rattle.durable_updates.specs.Compactions.{Compacts, Files, done, failed, fresh, undone}
use Rattle.durable_updates.specs.Journalling.{Journals, JournalsAll}
use Rattle.durable_updates.specs.ReadRequests.{AreRead, IsRead}
use Rattle.durable_updates.specs.Recorded.{IsBelow, IsNext, IsSpare}
use Rattle.durable_updates.specs.Runs.{Server, ServesAll}
use Rattle.durable_updates.specs.declared.compaction.CompactError.{CompactError}
use Rattle.durable_updates.specs.declared.compaction.Spare.{Spare}
use Rattle.durable_updates.proofs.Histories.{all_are_read}
use Rattle.durable_updates.proofs.Made.{generation_stays}

module _ {D : Type 0} (disks : DiskGhosts D) where
  abbrev Settled : JournalState D → List (List ℕ) → Type 0
  Settled journal entries = IsSettled disks.seen disks.may_leave journal entries

  abbrev Lies : JournalState D → ℕ → Type 0
  Lies journal generation = (journal.is_open ≡ false) ⊎ ((entries : List (List ℕ)) × Settled journal entries × (generation + 1 < 2 ^ 64 → generation_of entries < generation))

  -- the file that comes next stays so, while the journal goes on
  pub next_with : (old new : JournalState D) (spare : Option (Spare D)) → ((generation : ℕ) → IsBelow disks old generation → IsBelow disks new generation)
      → IfSome spare (λ s. IsNext disks old s.journal s.generation) → IfSome spare (λ s. IsNext disks new s.journal s.generation)
  next_with old new None keeps next = tt
  next_with old new (Some s) keeps next = record { is_spare = next.is_spare; below = keeps s.generation next.below }

  -- ---- a journal that is opened

  pub spare_at_start : (entries : List (List ℕ)) (disk : D) (end : ℕ) (journal : JournalState D) → journal ≡ record { disk = disk; end = end; is_open = true }
      → (IsTrue (disks.is_clean disk) → IsAtRest disks.seen disks.may_leave disk end entries) → IsSpare disks journal
  spare_at_start entries disk end journal is settled = λ clean.
      inr (entries, subst (λ (j : JournalState D). Settled j entries) (sym is) (settled (subst (λ (j : JournalState D). IsTrue (disks.is_clean j.disk)) is clean)))

  pub below_at_start : (entries : List (List ℕ)) (disk : D) (end generation : ℕ) (journal : JournalState D) → journal ≡ record { disk = disk; end = end; is_open = true }
      → (generation ≡ generation_of entries + 1) ⊎ (generation + 1 ≡ 2 ^ 64)
      → (IsTrue (disks.is_clean disk) → IsAtRest disks.seen disks.may_leave disk end entries) → IsBelow disks journal generation
  below_at_start entries disk end generation journal is next settled = λ clean.
      inr (
        entries,
        subst (λ (j : JournalState D). Settled j entries) (sym is) (settled (subst (λ (j : JournalState D). IsTrue (disks.is_clean j.disk)) is clean)),
        by next,
      )
    where
      by : (generation ≡ generation_of entries + 1) ⊎ (generation + 1 ≡ 2 ^ 64) → generation + 1 < 2 ^ 64 → generation_of entries < generation
      by (inl more) small = omega (arith, more)
      by (inr last) small = omega (arith, last, small)

  -- ---- a journal that takes entries

  module _ (old new : JournalState D) (generation : ℕ) (clean : disks.is_clean new.disk ≡ disks.is_clean old.disk) where
    pub below_left : (new ≡ old) ⊎ (new.is_open ≡ false) → IsBelow disks old generation → IsBelow disks new generation
    below_left (inl same) below = subst (λ (j : JournalState D). IsBelow disks j generation) (sym same) below
    below_left (inr shut) below = λ is. inl shut

    below_more : (requests : List ReceivedRequest) → AreRead requests → ((entries : List (List ℕ)) → Settled old entries → Settled new (entries ++ bytes_of requests)) → old.is_open ≡ true
        → IsBelow disks old generation → IsBelow disks new generation
    below_more requests read acknowledged was_open below = λ is. by (below (subst IsTrue clean is))
      where
        by : Lies old generation → Lies new generation
        by (inl shut) = absurd (let no : false ≡ true = sym shut ∙ was_open in cc)
        by (inr (entries, settled, lower)) =
            inr (entries ++ bytes_of requests, acknowledged entries settled, λ small. subst (λ n. n < generation) (sym (generation_stays entries requests read)) (lower small))

    either : (new ≡ old) ⊎ ((old.is_open ≡ true) × (new.is_open ≡ false)) → (new ≡ old) ⊎ (new.is_open ≡ false)
    either (inl same) = inl same
    either (inr broke) = inr broke.1

    pub below_on : {T E : Type 0} (answer : Result T E) (r : ReceivedRequest) → OnOk answer (r.was_read ≡ true) → (r.was_read ≡ true → IsRead r) → Journals disks.seen disks.may_leave answer r.bytes old new
        → IsBelow disks old generation → IsBelow disks new generation
    below_on (Ok t) r accepted read journals below = below_more (r ∷ []) (read accepted, tt) journals.acknowledged journals.opened.0 below
    below_on (Err e) r accepted read journals below = below_left (either journals.refused) below

    pub below_all_on : {T E : Type 0} (answer : Result T E) (requests : List ReceivedRequest) → AreRead requests → JournalsAll disks.seen disks.may_leave answer (bytes_of requests) old new
        → IsBelow disks old generation → IsBelow disks new generation
    below_all_on (Ok t) requests read journals below = by journals.opened
      where
        by : ((bytes_of requests ≡ []) × (new ≡ old)) ⊎ ((old.is_open ≡ true) × (new.is_open ≡ true)) → IsBelow disks new generation
        by (inl none) = below_left (inl none.1) below
        by (inr both) = below_more requests read journals.acknowledged both.0 below
    below_all_on (Err e) requests read journals below = below_left (either journals.refused) below

  -- ---- a journal that is compacted

  -- the generation that follows
  abbrev pub Follows : Result (Unit {0}) CompactError → ℕ → ℕ → Type 0
  Follows (Ok t) generation next = generation + 1 < 2 ^ 64 → next ≡ generation + 1
  Follows (Err e) generation next = next ≡ generation

  pub below_after : (zone : MemoryZone) (generation next : ℕ) (old : Files D) (result : Result (Unit {0}) CompactError) (new : Files D) → Compacts disks zone generation old result new → Follows result generation next
      → IsSpare disks old.spare → IsBelow disks old.journal generation → IsBelow disks new.journal next
  below_after zone generation next old result new undone follows spare below = subst (IsBelow disks old.journal) (sym follows) below
  below_after zone generation next old result new (done written may replaces other takes settled) follows spare below = λ clean. by (spare (subst IsTrue replaces.clean clean))
    where
      is : next ≡ generation + 1
      is = follows may.small

      lower : next + 1 < 2 ^ 64 → generation_of (fresh generation written) < next
      lower small = subst (λ n. n < next) (sym (from_be_bytes-to_be_bytes_8 generation (let room : generation + 1 < 2 ^ 64 = may.small in omega arith))) (let next_is : next ≡ generation + 1 = is in omega arith)

      by : (old.spare.is_open ≡ false) ⊎ ((entries : List (List ℕ)) × Settled old.spare entries) → Lies new.journal next
      by (inl shut) = absurd (let no : false ≡ true = sym shut ∙ replaces.was_open in cc)
      by (inr s) = inr (fresh generation written, settled s.0 s.1, lower)
  below_after zone generation next old result new (failed written may replaces (inl shut)) follows spare below =
      λ clean. inl (subst (λ (j : JournalState D). j.is_open ≡ false) (sym shut.0) refl)
  below_after zone generation next old result new (failed written may replaces (inr same)) follows spare below =
      subst (λ (j : JournalState D). IsBelow disks j next) (sym same.0) (subst (IsBelow disks old.journal) (sym follows) below)

-- a batch more, or want of memory
pub below_served : {V D T E : Type 0} (by : Ghosts V) (disks : DiskGhosts D) (told_of : T → List Told) (requests : List (ReceivedRequest × ℕ)) (old new : Server V D) (generation : ℕ)
    → disks.is_clean new.journal.disk ≡ disks.is_clean old.journal.disk → (result : Result T E) → IfOk result (λ told. ServesAll by disks requests (told_of told) old new)
    → IfErr result (λ e. (new.zone ≡ old.zone) × (new.journal ≡ old.journal)) → IsBelow disks old.journal generation → IsBelow disks new.journal generation
below_served by disks told_of requests old new generation clean (Ok told) all memory below =
    below_all_on disks old.journal new.journal generation clean all.answers.written (accepted requests all.answers.judged) (all_are_read by disks requests (told_of told) old new all) all.journals below
below_served by disks told_of requests old new generation clean (Err e) all memory below = below_left disks old.journal new.journal generation clean (inl memory.1) below
