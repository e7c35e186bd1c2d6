-- What a server keeps that compacts its journal now and then, and what a crash leaves of its two files.
use Rattle.std.proofs.Common.{◌≡◌, ◌⊎◌, inl, inr, ◌<◌, ◌≤◌, ◌+◌, ◌^◌, ◌∙◌, ap, sym, subst, refl, ℕ, Bool, true, false, cond, not, IsTrue, List, [], ◌∷◌, ◌++◌, length, Result, Ok, Err, OnOk, arith}
use Rattle.std.proofs.lemmas.Bool.{cases_lt}
use Rattle.std.proofs.lemmas.List.{append-nil}
use Rattle.std.proofs.lemmas.Nat.{from_be_bytes-to_be_bytes_8}
use Rattle.hickory_base.specs.requests.Requests.{ReceivedRequest}
use Rattle.hickory_base.specs.zone_store.ZoneAnswers.{MemoryZone}
use Rattle.hickory_base.specs.declared.errors.UpdateFault.{UpdateFault}
use Rattle.hickory_store.specs.updates.UpdatableZone.{UpdatableZone}
use Rattle.hickory_store.specs.updates.UpdateLaws.{HasOneSoa, HoldsIn}
use Rattle.hickory_store.specs.declared.updates.verifier.Verifier.{Ghosts}
use Rattle.hickory_store.proofs.lemmas.updates.ApexNs.{OfOneType}
use Rattle.hickory_store.proofs.lemmas.updates.SameZones.{Identity}
use Rattle.sqlite_disk.specs.Disk.{Only}
use Rattle.sqlite_disk.specs.declared.Disk.{Ghosts as DiskGhosts}
use Rattle.journal.specs.Frames.{IsBeforeOrAfter, StandsFor, ended}
use Rattle.journal.specs.Generations.{StandFor, generation_of, header}
use Rattle.journal.specs.JournalState.{JournalState}
use Rattle.journal.specs.Read.{contents}
use Rattle.journal.specs.Settled.{IsSettled}
use Rattle.journal.proofs.Pairs.{first_is, one_of_two, second_is}
use Rattle.journal.proofs.Steps.{rests}
use Rattle.durable_updates.specs.Batches.{accepted, bytes_of}
use Rattle.durable_updates.specs.CompactedRuns.{AreDisks, AreKept, CompactsOnce, IsLifeOfTwo, IsMadeBy, Mean, OnDisk, PairServer, RunOfTwo, SameSpare, ServesTwo, StandForRequests, StartsTwo, Turns, answered, answered_all, begun, between_calls, compacted, files_of, lived, opened, server_of, unborn, while_starting, within_batch, within_compaction, within_request}
use Rattle.durable_updates.specs.Compactions.{Compacts, Files, Replaces, done, failed, fresh, undone}
use Rattle.durable_updates.specs.Recorded.{IsHandedBack}
use Rattle.durable_updates.specs.Recovering.{counting}
use Rattle.durable_updates.specs.ReadRequests.{AreRead, those_read}
use Rattle.durable_updates.specs.Runs.{AtMostInDoubt, Life, Server, after_answer, cut_short, doubted, unused}
use Rattle.durable_updates.specs.Snapshots.{Recalls}
use Rattle.durable_updates.specs.declared.compaction.CompactError.{CompactError}
use Rattle.durable_updates.proofs.Accepted.{accepted_few}
use Rattle.durable_updates.proofs.Compactions.{stand_for}
use Rattle.durable_updates.proofs.Histories.{Took, all_are_read, bytes_more, few_after, few_doubted, one_few, one_is_read, stays, took_all, took_one, true_not_false}
use Rattle.durable_updates.proofs.Made.{generation_stays, made_on, mean_more, mean_of, recalls_more, recalls_others}
use Rattle.durable_updates.proofs.Recalled.{recalls_all}

-- ---- which file counts

-- the journal, which is in the second file or not, is the one that counts
abbrev InOrder : Bool → List (List ℕ) → List (List ℕ) → Type 0
InOrder false before entries = generation_of before ≤ generation_of entries
InOrder true before entries = generation_of before < generation_of entries

-- the files of a journal and its spare one, the first and the second
abbrev Stand : Bool → List ℕ → List ℕ → List (List ℕ) → Type 0
Stand false file spare entries = StandFor file spare entries
Stand true file spare entries = StandFor spare file entries

stand : (s : Bool) (file spare : List ℕ) (before entries : List (List ℕ)) → InOrder s before entries → StandsFor file entries → StandsFor spare before → Stand s file spare entries
stand false file spare before entries order mine theirs = (entries, before, mine, theirs, inl (order, refl))
stand true file spare before entries order mine theirs = (before, entries, theirs, mine, inr (order, refl))

-- with requests behind its entries, or without
stand_either : (s : Bool) (file spare : List ℕ) (before entries added : List (List ℕ)) → generation_of (entries ++ added) ≡ generation_of entries → InOrder s before entries → IsBeforeOrAfter entries added file → StandsFor spare before
    → Stand s file spare entries ⊎ Stand s file spare (entries ++ added)
stand_either s file spare before entries added same order (inl mine) theirs = inl (stand s file spare before entries order mine theirs)
stand_either false file spare before entries added same order (inr mine) theirs = inr (stand false file spare before (entries ++ added) (subst (λ n. generation_of before ≤ n) (sym same) order) mine theirs)
stand_either true file spare before entries added same order (inr mine) theirs = inr (stand true file spare before (entries ++ added) (subst (λ n. generation_of before < n) (sym same) order) mine theirs)

ordered_more : (s : Bool) (before entries added : List (List ℕ)) → generation_of (entries ++ added) ≡ generation_of entries → InOrder s before entries → InOrder s before (entries ++ added)
ordered_more false before entries added same order = subst (λ n. generation_of before ≤ n) (sym same) order
ordered_more true before entries added same order = subst (λ n. generation_of before < n) (sym same) order

ordered_none : (s : Bool) (before entries : List (List ℕ)) → InOrder s before entries → InOrder s [] entries
ordered_none false before entries order = omega arith
ordered_none true before entries order = omega (arith, order)

generation_is : (generation : ℕ) (entries : List (List ℕ)) → generation < 2 ^ 64 → generation_of (header generation ∷ entries) ≡ generation
generation_is generation entries small = from_be_bytes-to_be_bytes_8 generation small

ordered_fresh : (s : Bool) (generation : ℕ) (snapshot entries : List (List ℕ)) → generation < 2 ^ 64 → generation_of entries < generation → InOrder (not s) entries (fresh generation snapshot)
ordered_fresh true generation snapshot entries small higher =
    let least : generation_of entries ≤ generation = omega (arith, higher) in
    subst (λ n. generation_of entries ≤ n) (sym (generation_is generation (snapshot ++ [] ∷ []) small)) least
ordered_fresh false generation snapshot entries small higher = subst (λ n. generation_of entries < n) (sym (generation_is generation (snapshot ++ [] ∷ []) small)) higher

-- ---- lives and what they leave

module _ (base : MemoryZone) where
  -- these files are left, which stand for requests, with those in doubt or without
  record Left (requests : List (List ℕ)) (doubt : List ReceivedRequest) (next : OnDisk) : Type 0 where
    entries : List (List ℕ)
    what : List (List ℕ)
    stand : StandFor next.first next.second entries
    mean : Mean entries base what
    which : (what ≡ requests) ⊎ (what ≡ requests ++ bytes_of doubt)

  still_left : (requests : List (List ℕ)) (doubt more : List ReceivedRequest) (next : OnDisk) → Left requests doubt next → Left requests (doubted doubt more) next
  still_left requests [] more next left = record { entries = left.entries; what = left.what; stand = left.stand; mean = left.mean; which = inl (by left.which) }
    where
      by : (left.what ≡ requests) ⊎ (left.what ≡ requests ++ []) → left.what ≡ requests
      by (inl is) = is
      by (inr is) = is ∙ append-nil requests
  still_left requests (first ∷ others) more next left = left

module _ (identity : Identity) (same_type : OfOneType) {V D : Type 0} (by : Ghosts V) (disks : DiskGhosts D) (base : MemoryZone) (soa : HoldsIn HasOneSoa base) where
  abbrev Settled : JournalState D → List (List ℕ) → Type 0
  Settled journal entries = IsSettled disks.seen disks.may_leave journal entries

  -- the journal takes entries, those that it has are on the disk and make the zone, and its file is the one that counts
  record IsTaking (zone : MemoryZone) (files : Files D) (s : Bool) (generation : ℕ) : Type 0 where
    takes : files.journal.is_open ≡ true
    entries : List (List ℕ)
    before : List (List ℕ)
    settled : Settled files.journal entries
    spare : Settled files.spare before
    order : InOrder s before entries
    higher : generation + 1 < 2 ^ 64 → generation_of entries < generation
    recalls : Recalls entries base zone

  -- the files that a crash leaves
  abbrev MayBe : Files D → Bool → OnDisk → Type 0
  MayBe files s next = disks.may_leave (cond s files.spare files.journal).disk next.first × disks.may_leave (cond s files.journal files.spare).disk next.second

  -- it takes none, and what a crash leaves stands for the requests, with those in doubt or without
  record IsLost (requests : List (List ℕ)) (doubt : List ReceivedRequest) (files : Files D) (s : Bool) : Type 0 where
    shut : files.journal.is_open ≡ false
    leaves : (next : OnDisk) → MayBe files s next → Left base requests doubt next

  abbrev InFiles : List (List ℕ) → List ReceivedRequest → MemoryZone → Files D → Bool → ℕ → Type 0
  InFiles requests doubt zone files s generation = ((doubt ≡ []) × IsTaking zone files s generation) ⊎ IsLost requests doubt files s

  record InStep (requests : List (List ℕ)) (life : Life) (server : PairServer V D) : Type 0 where
    made : IsMadeBy (requests ++ bytes_of life.acknowledged) base server.zone.zone
    files : InFiles (requests ++ bytes_of life.acknowledged) life.in_doubt server.zone.zone server.files server.is_second server.generation

  -- where the files are, the journal's and the spare one
  placed : (P : List ℕ → List ℕ → Type 0) (files : Files D) (s : Bool) (next : OnDisk)
      → ((file spare : List ℕ) → disks.may_leave files.journal.disk file → disks.may_leave files.spare.disk spare → P file spare) → MayBe files s next
      → (file : List ℕ) × (spare : List ℕ) × P file spare × ((entries : List (List ℕ)) → Stand s file spare entries → StandFor next.first next.second entries)
  placed P files false next known left = (next.first, next.second, known next.first next.second left.0 left.1, λ entries it. it)
  placed P files true next known left = (next.second, next.first, known next.second next.first left.1 left.0, λ entries it. it)

  -- what a file leaves that is settled
  leaves : (journal : JournalState D) (entries : List (List ℕ)) → Settled journal entries → (file : List ℕ) → disks.may_leave journal.disk file → StandsFor file entries
  leaves journal entries settled file left = rests disks.seen disks.may_leave journal.disk journal.end entries settled file left

  -- a crash between two calls
  left_between : (requests : List (List ℕ)) (doubt : List ReceivedRequest) (zone : MemoryZone) (files : Files D) (s : Bool) (generation : ℕ) → IsMadeBy requests base zone → InFiles requests doubt zone files s generation
      → (next : OnDisk) → MayBe files s next → Left base requests doubt next
  left_between requests doubt zone files s generation made (inr lost) next left = lost.leaves next left
  left_between requests doubt zone files s generation made (inl taking) next left =
      let t = taking.1 in
      let p = placed (λ file spare. StandsFor file t.entries × StandsFor spare t.before) files s next (λ file spare a b. (leaves files.journal t.entries t.settled file a, leaves files.spare t.before t.spare spare b)) left in
      record {
        entries = t.entries;
        what = requests;
        stand = p.3 t.entries (stand s p.0 p.1 t.before t.entries t.order p.2.0 p.2.1);
        mean = mean_of identity same_type base soa t.entries requests zone made t.recalls;
        which = inl refl;
      }

  -- a crash while these are written
  module _ (requests : List (List ℕ)) (doubt : List ReceivedRequest) (zone : MemoryZone) (files now : Files D) (s : Bool) (generation : ℕ) (read : AreRead doubt) (made : IsMadeBy requests base zone) (t : IsTaking zone files s generation) where
    left_either : (next : OnDisk) → StandFor next.first next.second t.entries ⊎ StandFor next.first next.second (t.entries ++ bytes_of doubt) → Left base requests doubt next
    left_either next (inl old) = record {
      entries = t.entries;
      what = requests;
      stand = old;
      mean = mean_of identity same_type base soa t.entries requests zone made t.recalls;
      which = inl refl;
    }
    left_either next (inr new) = record {
      entries = t.entries ++ bytes_of doubt;
      what = requests ++ bytes_of doubt;
      stand = new;
      mean = mean_more identity same_type base soa t.entries requests doubt zone read made t.recalls;
      which = inr refl;
    }

    on_disk : (next : OnDisk) (file spare : List ℕ) → ((entries : List (List ℕ)) → Stand s file spare entries → StandFor next.first next.second entries)
        → Stand s file spare t.entries ⊎ Stand s file spare (t.entries ++ bytes_of doubt) → StandFor next.first next.second t.entries ⊎ StandFor next.first next.second (t.entries ++ bytes_of doubt)
    on_disk next file spare there (inl old) = inl (there t.entries old)
    on_disk next file spare there (inr new) = inr (there (t.entries ++ bytes_of doubt) new)

    left_writing : ((file : List ℕ) → disks.may_leave now.journal.disk file → IsBeforeOrAfter t.entries (bytes_of doubt) file) → now.spare ≡ files.spare → (next : OnDisk) → MayBe now s next → Left base requests doubt next
    left_writing crash same next left =
        let p = placed (λ file spare. IsBeforeOrAfter t.entries (bytes_of doubt) file × StandsFor spare t.before) now s next
        (λ file spare a b. (crash file a, leaves files.spare t.before t.spare spare (subst (λ (j : JournalState D). disks.may_leave j.disk spare) same b))) left in
        left_either next (on_disk next p.0 p.1 p.3 (stand_either s p.0 p.1 t.before t.entries (bytes_of doubt) (generation_stays t.entries doubt read) t.order p.2.0 p.2.1))

  -- ---- requests

  journal_taken : {T : Type 0} (written : Result T UpdateFault) (requests : List ReceivedRequest) (old new : Server V D) → Took by disks requests written old new → OnOk written (old.journal.is_open ≡ true → new.journal.is_open ≡ true)
  journal_taken (Ok told) requests old new took = λ takes. from takes took.journals.opened
    where
      from : old.journal.is_open ≡ true → ((bytes_of requests ≡ []) × (new.journal ≡ old.journal)) ⊎ ((old.journal.is_open ≡ true) × (new.journal.is_open ≡ true)) → new.journal.is_open ≡ true
      from takes (inl alone) = ap (λ (j : JournalState D). j.is_open) alone.1 ∙ takes
      from takes (inr both) = both.1
  journal_taken (Err fault) requests old new took = tt

  -- files of which a crash leaves the same
  same_left : (files now : Files D) (s t : Bool) → now.journal ≡ files.journal → now.spare ≡ files.spare → t ≡ s → (next : OnDisk) → MayBe now t next → MayBe files s next
  same_left files now s t journal spare turned next left =
      subst (λ b. MayBe files b next) turned
      (subst (λ (j : JournalState D). MayBe (record { journal = files.journal; spare = j }) t next) spare (subst (λ (j : JournalState D). MayBe (record { journal = j; spare = now.spare }) t next) journal left))

  left_as : (doubt : List ReceivedRequest) (next : OnDisk) (requests others : List (List ℕ)) → requests ≡ others → Left base requests doubt next → Left base others doubt next
  left_as doubt next requests others is left = subst (λ (l : List (List ℕ)). Left base l doubt next) is left

  module _ (requests : List (List ℕ)) (life : Life) (added : List ReceivedRequest) (read : AreRead added) (old new : PairServer V D) (same : SameSpare old new) (step : InStep requests life old) where
    abbrev Acknowledged : List (List ℕ)
    Acknowledged = requests ++ bytes_of life.acknowledged

    taken_on : {T : Type 0} (told : T) → Took by disks added (Ok told) (server_of old) (server_of new)
        → (life.in_doubt ≡ []) × IsTaking old.zone.zone old.files old.is_second old.generation → InFiles (Acknowledged ++ bytes_of added) life.in_doubt new.zone.zone new.files new.is_second new.generation
    taken_on told took taking =
        let t = taking.1 in
        let stays = generation_stays t.entries added read in
        inl (
          taking.0,
          record {
            takes = journal_taken (Ok told) added (server_of old) (server_of new) took t.takes;
            entries = t.entries ++ bytes_of added;
            before = t.before;
            settled = took.journals.acknowledged t.entries t.settled;
            spare = subst (λ (j : JournalState D). Settled j t.before) (sym same.spare) t.spare;
            order = subst (λ s. InOrder s t.before (t.entries ++ bytes_of added)) (sym same.is_second) (ordered_more old.is_second t.before t.entries (bytes_of added) stays t.order);
            higher = subst (λ g. g + 1 < 2 ^ 64 → generation_of (t.entries ++ bytes_of added) < g) (sym same.generation) (subst (λ n. old.generation + 1 < 2 ^ 64 → n < old.generation) (sym stays) t.higher);
            recalls = recalls_more t.entries (bytes_of added) base old.zone.zone new.zone.zone t.recalls took.made;
          },
        )

    lost_on : {T : Type 0} (told : T) → Took by disks added (Ok told) (server_of old) (server_of new) → IsLost Acknowledged life.in_doubt old.files old.is_second
        → InFiles (Acknowledged ++ bytes_of added) life.in_doubt new.zone.zone new.files new.is_second new.generation
    lost_on told took lost = inr (record {
      shut = ap (λ (j : JournalState D). j.is_open) (alone took.journals.opened).1 ∙ lost.shut;
      leaves = λ next left. left_as life.in_doubt next Acknowledged (Acknowledged ++ bytes_of added) (sym (append-nil Acknowledged) ∙ ap (λ (l : List (List ℕ)). Acknowledged ++ l) (sym (alone took.journals.opened).0))
          (lost.leaves next (same_left old.files new.files old.is_second new.is_second (alone took.journals.opened).1 same.spare same.is_second next left));
    })
      where
        alone : ((bytes_of added ≡ []) × (new.files.journal ≡ old.files.journal)) ⊎ ((old.files.journal.is_open ≡ true) × (new.files.journal.is_open ≡ true)) → (bytes_of added ≡ []) × (new.files.journal ≡ old.files.journal)
        alone (inl both) = both
        alone (inr both) = true_not_false old.files.journal.is_open both.0 lost.shut

    ok_on : {T : Type 0} (told : T) → Took by disks added (Ok told) (server_of old) (server_of new) → (is_open : Bool) → InStep requests (after_answer {T = T} life added (Ok told) is_open) new
    ok_on told took is_open = record {
      made = subst (λ (l : List (List ℕ)). IsMadeBy l base new.zone.zone) (sym (bytes_more requests life.acknowledged added))
          (made_on identity same_type base soa Acknowledged (bytes_of added) old.zone.zone new.zone.zone step.made took.made);
      files = subst (λ (l : List (List ℕ)). InFiles l life.in_doubt new.zone.zone new.files new.is_second new.generation) (sym (bytes_more requests life.acknowledged added)) (from step.files);
    }
      where
        from : InFiles Acknowledged life.in_doubt old.zone.zone old.files old.is_second old.generation → InFiles (Acknowledged ++ bytes_of added) life.in_doubt new.zone.zone new.files new.is_second new.generation
        from (inl taking) = taken_on told took taking
        from (inr lost) = lost_on told took lost

    -- nothing has changed
    same_taking : new.zone ≡ old.zone → new.files.journal ≡ old.files.journal → IsTaking old.zone.zone old.files old.is_second old.generation → IsTaking new.zone.zone new.files new.is_second new.generation
    same_taking zone journal t = record {
      takes = ap (λ (j : JournalState D). j.is_open) journal ∙ t.takes;
      entries = t.entries;
      before = t.before;
      settled = subst (λ (j : JournalState D). Settled j t.entries) (sym journal) t.settled;
      spare = subst (λ (j : JournalState D). Settled j t.before) (sym same.spare) t.spare;
      order = subst (λ s. InOrder s t.before t.entries) (sym same.is_second) t.order;
      higher = subst (λ g. g + 1 < 2 ^ 64 → generation_of t.entries < g) (sym same.generation) t.higher;
      recalls = subst (λ (z : UpdatableZone V). Recalls t.entries base z.zone) (sym zone) t.recalls;
    }

    -- a crash within a call, or after one that failed
    left_within : {T : Type 0} (written : Result T UpdateFault) → Took by disks added written (server_of old) (server_of new) → (next : OnDisk) → MayBe new.files new.is_second next → Left base Acknowledged (doubted life.in_doubt added) next
    left_within written took next left = from step.files
      where
        from : InFiles Acknowledged life.in_doubt old.zone.zone old.files old.is_second old.generation → Left base Acknowledged (doubted life.in_doubt added) next
        from (inl taking) =
            subst (λ doubt. Left base Acknowledged (doubted doubt added) next) (sym taking.0)
            (left_writing Acknowledged added old.zone.zone old.files new.files old.is_second old.generation read step.made taking.1
            (λ file a. took.journals.crash taking.1.entries taking.1.settled file a) same.spare next (subst (λ s. MayBe new.files s next) same.is_second left))
        from (inr lost) =
            still_left base Acknowledged life.in_doubt added next
            (lost.leaves next (same_left old.files new.files old.is_second new.is_second (stays by disks base [] written added (server_of old) (server_of new) lost.shut took) same.spare same.is_second next left))

    refused : {T : Type 0} (fault : UpdateFault) → Took by disks {T = T} added (Err fault) (server_of old) (server_of new) → (is_open : Bool) → new.files.journal.is_open ≡ is_open
        → InStep requests (after_answer {T = T} life added (Err fault) is_open) new
    refused fault took true is = record {
      made = subst (λ (z : UpdatableZone V). IsMadeBy Acknowledged base z.zone) (sym took.kept) step.made;
      files = from step.files took.journals.refused;
    }
      where
        from : InFiles Acknowledged life.in_doubt old.zone.zone old.files old.is_second old.generation
            → (new.files.journal ≡ old.files.journal) ⊎ ((old.files.journal.is_open ≡ true) × (new.files.journal.is_open ≡ false)) → InFiles Acknowledged life.in_doubt new.zone.zone new.files new.is_second new.generation
        from (inl taking) (inl journal) = inl (taking.0, same_taking took.kept journal taking.1)
        from (inr lost) (inl journal) = true_not_false new.files.journal.is_open is (ap (λ (j : JournalState D). j.is_open) journal ∙ lost.shut)
        from files (inr gone) = true_not_false new.files.journal.is_open is gone.1
    refused {T} fault took false is = record {
      made = subst (λ (z : UpdatableZone V). IsMadeBy Acknowledged base z.zone) (sym took.kept) step.made;
      files = inr (record { shut = is; leaves = left_within {T = T} (Err fault) took });
    }

    step_on : {T : Type 0} (written : Result T UpdateFault) → Took by disks added written (server_of old) (server_of new) → InStep requests (after_answer life added written new.files.journal.is_open) new
    step_on (Ok told) took = ok_on told took new.files.journal.is_open
    step_on (Err fault) took = refused fault took new.files.journal.is_open refl

  -- ---- compactions

  module _ (requests : List (List ℕ)) (doubt : List ReceivedRequest) (zone : MemoryZone) (made : IsMadeBy requests base zone) where
    -- the snapshot makes the zone
    fresh_recalls : (generation : ℕ) (snapshot entries : List (List ℕ)) (old new : JournalState D) → Replaces disks zone generation snapshot old new → Recalls entries base zone → Recalls (fresh generation snapshot) base zone
    fresh_recalls generation snapshot entries old new replaces recalls = record {
      base = zone;
      requests = [];
      is_base = inr (record {
        head = header generation;
        snapshot = snapshot;
        split = refl;
        is_head = refl;
        is_snapshot = replaces.is_snapshot;
        others = recalls_others entries base zone recalls;
      });
      redone = refl;
    }

    -- the old file counts, or the new one
    either : (s : Bool) (generation : ℕ) (snapshot before entries : List (List ℕ)) (file spare : List ℕ) → StandsFor file entries → InOrder s before entries → generation_of entries < generation → generation < 2 ^ 64
        → StandsFor spare before ⊎ (StandsFor spare [] ⊎ StandsFor spare (fresh generation snapshot)) → Stand s file spare entries ⊎ Stand s file spare (fresh generation snapshot)
    either false generation snapshot before entries file spare stands order higher small being = second_is entries (snapshot ++ [] ∷ []) generation file spare before stands order higher small being
    either true generation snapshot before entries file spare stands order higher small being = first_is entries (snapshot ++ [] ∷ []) generation file spare before stands order higher small being

    compact_step : (files now : Files D) (s t : Bool) (generation next : ℕ) (result : Result (Unit {0}) CompactError) → Compacts disks zone generation files result now → Turns result s generation t next
        → InFiles requests doubt zone files s generation → InFiles requests doubt zone now t next
    compact_step files now s t generation next result undone turned was =
        subst (λ b. InFiles requests doubt zone files b next) (sym turned.0) (subst (λ g. InFiles requests doubt zone files s g) (sym turned.1) was)
    compact_step files now s t generation next result (done snapshot may replaces other takes settled) turned (inr lost) = true_not_false files.journal.is_open may.takes lost.shut
    compact_step files now s t generation next result (done snapshot may replaces other takes settled) turned (inl taking) =
        let k = taking.1 in
        let small : generation < 2 ^ 64 = omega (arith, may.small) in
        let above : generation_of (fresh generation snapshot) < next = subst (λ g. generation_of (fresh generation snapshot) < g) (sym turned.1) (subst (λ n. n < generation + 1) (sym (generation_is generation (snapshot ++ [] ∷ []) small)) (omega arith)) in
        inl (
          taking.0,
          record {
            takes = takes;
            entries = fresh generation snapshot;
            before = k.entries;
            settled = settled k.before k.spare;
            spare = subst (λ (j : JournalState D). Settled j k.entries) (sym other) k.settled;
            order = subst (λ b. InOrder b k.entries (fresh generation snapshot)) (sym turned.0) (ordered_fresh s generation snapshot k.entries small (k.higher may.small));
            higher = λ room. above;
            recalls = fresh_recalls generation snapshot k.entries files.spare now.journal replaces k.recalls;
          },
        )
    compact_step files now s t generation next result (failed snapshot may replaces end) turned (inr lost) = true_not_false files.journal.is_open may.takes lost.shut
    compact_step files now s t generation next result (failed snapshot may replaces (inl shut)) turned (inl taking) =
        let k = taking.1 in
        let small : generation < 2 ^ 64 = omega (arith, may.small) in
        inr (record {
          shut = ap (λ (j : JournalState D). j.is_open) shut.0;
          leaves = λ left there.
              let p = placed (λ file spare. StandsFor file k.entries × (StandsFor spare k.before ⊎ (StandsFor spare [] ⊎ StandsFor spare (fresh generation snapshot)))) now t left
              (λ file spare a b. (leaves files.journal k.entries k.settled file (subst (λ (j : JournalState D). disks.may_leave j.disk file) shut.0 a), replaces.crash k.before k.spare spare b)) there in
              of_two left (on_both left p.0 p.1 p.3 (either t generation snapshot k.before k.entries p.0 p.1 p.2.0 (subst (λ b. InOrder b k.before k.entries) (sym turned.0) k.order) (k.higher may.small) small p.2.1));
        })
      where
        of_two : (left : OnDisk) → StandFor left.first left.second taking.1.entries ⊎ StandFor left.first left.second (fresh generation snapshot) → Left base requests doubt left
        of_two left (inl old) = record {
          entries = taking.1.entries;
          what = requests;
          stand = old;
          mean = mean_of identity same_type base soa taking.1.entries requests zone made taking.1.recalls;
          which = inl refl;
        }
        of_two left (inr new) = record {
          entries = fresh generation snapshot;
          what = requests;
          stand = new;
          mean = mean_of identity same_type base soa (fresh generation snapshot) requests zone made (fresh_recalls generation snapshot taking.1.entries files.spare now.spare replaces taking.1.recalls);
          which = inl refl;
        }

        on_both : (left : OnDisk) (file spare : List ℕ) → ((entries : List (List ℕ)) → Stand t file spare entries → StandFor left.first left.second entries)
            → Stand t file spare taking.1.entries ⊎ Stand t file spare (fresh generation snapshot) → StandFor left.first left.second taking.1.entries ⊎ StandFor left.first left.second (fresh generation snapshot)
        on_both left file spare there (inl old) = inl (there taking.1.entries old)
        on_both left file spare there (inr new) = inr (there (fresh generation snapshot) new)
    compact_step files now s t generation next result (failed snapshot may replaces (inr kept)) turned (inl taking) =
        inl (taking.0, by_spare (kept.1 taking.1.before taking.1.spare))
      where
        with_spare : (before : List (List ℕ)) → Settled now.spare before → InOrder s before taking.1.entries → IsTaking zone now t next
        with_spare before settled order = record {
          takes = ap (λ (j : JournalState D). j.is_open) kept.0 ∙ taking.1.takes;
          entries = taking.1.entries;
          before = before;
          settled = subst (λ (j : JournalState D). Settled j taking.1.entries) (sym kept.0) taking.1.settled;
          spare = settled;
          order = subst (λ b. InOrder b before taking.1.entries) (sym turned.0) order;
          higher = subst (λ g. g + 1 < 2 ^ 64 → generation_of taking.1.entries < g) (sym turned.1) taking.1.higher;
          recalls = taking.1.recalls;
        }

        by_spare : Settled now.spare taking.1.before ⊎ Settled now.spare [] → IsTaking zone now t next
        by_spare (inl old) = with_spare taking.1.before old taking.1.order
        by_spare (inr none) = with_spare [] none (ordered_none s taking.1.before taking.1.entries taking.1.order)

  compact_on : (requests : List (List ℕ)) (life : Life) (result : Result (Unit {0}) CompactError) (old new : PairServer V D) → InStep requests life old → CompactsOnce by disks result old new → InStep requests life new
  compact_on requests life result old new step once = record {
    made = subst (λ (z : UpdatableZone V). IsMadeBy (requests ++ bytes_of life.acknowledged) base z.zone) (sym once.zone) step.made;
    files = subst (λ (z : UpdatableZone V). InFiles (requests ++ bytes_of life.acknowledged) life.in_doubt z.zone new.files new.is_second new.generation) (sym once.zone)
        (compact_step (requests ++ bytes_of life.acknowledged) life.in_doubt old.zone.zone step.made old.files new.files old.is_second new.is_second old.generation new.generation result once.compacts once.turns step.files);
  }

  -- ---- a life

  all_read : (most : ℕ) (first server : PairServer V D) (life : Life) → ServesTwo by disks most first life server → (requests : List (List ℕ)) → InStep requests unused first → InStep requests life server
  all_read most first server life begun requests start = start
  all_read most first server life (answered {life = earlier} {old = old} r now answer context so_far one same) requests start =
      step_on requests earlier (those_read (r ∷ [])) (one_is_read by disks r now answer context (server_of old) (server_of server) one) old server same (all_read most first old earlier so_far requests start) answer (took_one by disks r now answer context (server_of old) (server_of server) one)
  all_read most first server life (answered_all {life = earlier} {old = old} rs told so_far few all same) requests start =
      step_on requests earlier (accepted rs all.answers.judged) (all_are_read by disks rs told (server_of old) (server_of server) all) old server same (all_read most first old earlier so_far requests start) all.answers.written
      (took_all by disks rs told (server_of old) (server_of server) all)
  all_read most first server life (compacted {old = old} result so_far once) requests start = compact_on requests life result old server (all_read most first old life so_far requests start) once

  few : (most : ℕ) → 1 ≤ most → (first server : PairServer V D) (life : Life) → ServesTwo by disks most first life server → length life.in_doubt ≤ most
  few most some first server life begun = omega arith
  few most some first server life (answered {life = earlier} {old = old} r now answer context so_far one same) =
      few_after most earlier (those_read (r ∷ [])) answer server.files.journal.is_open (few most some first old earlier so_far) (one_few most r some)
  few most some first server life (answered_all {life = earlier} {old = old} rs told so_far at_most all same) =
      few_after most earlier (accepted rs all.answers.judged) all.answers.written server.files.journal.is_open (few most some first old earlier so_far) (accepted_few most rs all.answers.judged at_most)
  few most some first server life (compacted {old = old} result so_far once) = few most some first old life so_far

  -- a server that has started
  module _ (lives : List Life) (at : OnDisk) (stands : StandForRequests by disks base lives at) (server : PairServer V D) (s : StartsTwo by disks base at server) where
    abbrev Found : List (List ℕ)
    Found = contents (counting s.found).items

    abbrev First : List (List ℕ)
    First = contents s.found.first.entries.items

    abbrev Second : List (List ℕ)
    Second = contents s.found.second.entries.items

    found_is : Found ≡ stands.entries
    found_is =
        one_of_two at.first at.second Found stands.entries
        (subst (λ f. StandFor f at.second Found) s.are.first_there (subst (λ f. StandFor (disks.seen s.disk) f Found) s.are.second_there
        (stand_for disks s.disk s.other_disk s.found s.first s.second s.found_so s.first_clean s.second_clean)))
        stands.stand

    start_made : IsMadeBy stands.requests base server.zone.zone
    start_made = stands.mean server.zone.zone (subst (λ (l : List (List ℕ)). Recalls l base server.zone.zone) found_is s.recalls)

    start_taking : IsTaking server.zone.zone server.files server.is_second server.generation
    start_taking = subst (λ (f : Files D). IsTaking server.zone.zone f server.is_second server.generation) (sym s.files) (subst (λ b. IsTaking server.zone.zone (files_of by disks s.found s.first s.second) b server.generation) (sym s.is_second) (from s.found.is_second refl))
      where
        higher : server.generation + 1 < 2 ^ 64 → generation_of Found < server.generation
        higher room = by_next s.next
          where
            by_next : (server.generation ≡ generation_of Found + 1) ⊎ (server.generation + 1 ≡ 2 ^ 64) → generation_of Found < server.generation
            by_next (inl one) = omega (arith, one)
            by_next (inr last) = absurd (omega (arith, last, room))

        lower : s.found.is_second ≡ false → generation_of Second ≤ generation_of First
        lower is = by_case (cases_lt (generation_of First) (generation_of Second))
          where
            by_case : (generation_of First < generation_of Second) ⊎ (generation_of Second ≤ generation_of First) → generation_of Second ≤ generation_of First
            by_case (inl low) = absurd (let no : false ≡ true = sym is ∙ s.found_so.counts.1 low in cc)
            by_case (inr high) = high

        from : (b : Bool) → s.found.is_second ≡ b → IsTaking server.zone.zone (files_of by disks s.found s.first s.second) s.found.is_second server.generation
        from true is =
            subst (λ b. IsTaking server.zone.zone (cond b (record { journal = opened by disks s.second s.found.second.end; spare = opened by disks s.first s.found.first.end })
            (record { journal = opened by disks s.first s.found.first.end; spare = opened by disks s.second s.found.second.end })) b server.generation) (sym is) (record {
              takes = refl;
              entries = Second;
              before = First;
              settled = s.found_so.second_recovers.settled s.second_clean;
              spare = s.found_so.first_recovers.settled s.first_clean;
              order = s.found_so.counts.0 is;
              higher = subst (λ b. server.generation + 1 < 2 ^ 64 → generation_of (contents (cond b s.found.second.entries s.found.first.entries).items) < server.generation) is higher;
              recalls = subst (λ b. Recalls (contents (cond b s.found.second.entries s.found.first.entries).items) base server.zone.zone) is s.recalls;
            })
        from false is =
            subst (λ b. IsTaking server.zone.zone (cond b (record { journal = opened by disks s.second s.found.second.end; spare = opened by disks s.first s.found.first.end })
            (record { journal = opened by disks s.first s.found.first.end; spare = opened by disks s.second s.found.second.end })) b server.generation) (sym is) (record {
              takes = refl;
              entries = First;
              before = Second;
              settled = s.found_so.first_recovers.settled s.first_clean;
              spare = s.found_so.second_recovers.settled s.second_clean;
              order = lower is;
              higher = subst (λ b. server.generation + 1 < 2 ^ 64 → generation_of (contents (cond b s.found.second.entries s.found.first.entries).items) < server.generation) is higher;
              recalls = subst (λ b. Recalls (contents (cond b s.found.second.entries s.found.first.entries).items) base server.zone.zone) is s.recalls;
            })

    start : InStep stands.requests unused server
    start = record {
      made = subst (λ (l : List (List ℕ)). IsMadeBy l base server.zone.zone) (sym (append-nil stands.requests)) start_made;
      files = inl (refl, start_taking);
    }

  -- ---- a run

  module _ (lives : List Life) (at : OnDisk) (stands : StandForRequests by disks base lives at) where
    left_by : (life : Life) (next : OnDisk) → Left base (stands.requests ++ bytes_of life.acknowledged) life.in_doubt next → StandForRequests by disks base (life ∷ lives) next
    left_by life next left = record { entries = left.entries; requests = left.what; stand = left.stand; may = (stands.requests, stands.may, left.which); mean = left.mean }

    -- a file that is being recovered, or was not touched
    handed : (disk now : D) (entries : List (List ℕ)) → IsHandedBack disks disk now → IsTrue (disks.is_clean now) → Only (disks.seen disk) (disks.may_leave disk) → StandsFor (disks.seen disk) entries
        → (file : List ℕ) → disks.may_leave now file → StandsFor file entries
    handed disk now entries (inl same) clean only stands file left = subst (λ f. StandsFor f entries) (only_is only file (subst (λ d. disks.may_leave d file) same left)) stands
      where
        only_is : Only (disks.seen disk) (disks.may_leave disk) → (c : List ℕ) → disks.may_leave disk c → disks.seen disk ≡ c
        only_is only c left = sym (only c left)
    handed disk now entries (inr recovery) clean only stands file left = recovery.1.crash clean entries stands file left

    while_recovering : (next : OnDisk) (disk other first second : D) → AreDisks by disks at disk other → IsHandedBack disks disk first → IsHandedBack disks other second
        → IsTrue (disks.is_clean first) → IsTrue (disks.is_clean second) → disks.may_leave first next.first → disks.may_leave second next.second → StandFor next.first next.second stands.entries
    while_recovering next disk other first second are one two clean clean_too left left_too =
        let st = stands.stand in (
          st.0,
          st.1,
          handed disk first st.0 one clean are.first_restarted (subst (λ f. StandsFor f st.0) (sym are.first_there) st.2) next.first left,
          handed other second st.1 two clean_too are.second_restarted (subst (λ f. StandsFor f st.1) (sym are.second_there) st.3) next.second left_too,
          st.4,
        )

    one_life : (most : ℕ) → 1 ≤ most → (life : Life) (next : OnDisk) → IsLifeOfTwo by disks most base at life next → StandForRequests by disks base (life ∷ lives) next × (length life.in_doubt ≤ most)
    one_life most some life next (while_starting {disk = disk} {other_disk = other} {first = first} {second = second} are one two clean clean_too left left_too) = (
      record {
        entries = stands.entries;
        requests = stands.requests;
        stand = while_recovering next disk other first second are one two clean clean_too left left_too;
        may = (stands.requests, stands.may, inl (sym (append-nil stands.requests)));
        mean = stands.mean;
      },
      omega arith,
    )
    one_life most some life next (between_calls {first = first} {server = server} s serves left) =
        let step = all_read most first server life serves stands.requests (start lives at stands first s) in (
          left_by life next (left_between (stands.requests ++ bytes_of life.acknowledged) life.in_doubt server.zone.zone server.files server.is_second server.generation step.made step.files next (left.first, left.second)),
          few most some first server life serves,
        )
    one_life most some life next (within_request {life = earlier} {first = first} {old = old} {new = new} r now answer context s serves one same left) =
        let step = all_read most first old earlier serves stands.requests (start lives at stands first s) in (
          left_by (cut_short earlier (those_read (r ∷ []))) next
              (left_within stands.requests earlier (those_read (r ∷ [])) (one_is_read by disks r now answer context (server_of old) (server_of new) one) old new same step answer (took_one by disks r now answer context (server_of old) (server_of new) one) next (left.first, left.second)),
          few_doubted most earlier.in_doubt (those_read (r ∷ [])) (few most some first old earlier serves) (one_few most r some),
        )
    one_life most some life next (within_batch {life = earlier} {first = first} {old = old} {new = new} rs told s serves at_most all same left) =
        let step = all_read most first old earlier serves stands.requests (start lives at stands first s) in (
          left_by (cut_short earlier (accepted rs all.answers.judged)) next
              (left_within stands.requests earlier (accepted rs all.answers.judged) (all_are_read by disks rs told (server_of old) (server_of new) all) old new same step all.answers.written
              (took_all by disks rs told (server_of old) (server_of new) all) next (left.first, left.second)),
          few_doubted most earlier.in_doubt (accepted rs all.answers.judged) (few most some first old earlier serves) (accepted_few most rs all.answers.judged at_most),
        )
    one_life most some life next (within_compaction {first = first} {old = old} {new = new} result s serves once left) =
        let step = compact_on stands.requests life result old new (all_read most first old life serves stands.requests (start lives at stands first s)) once in (
          left_by life next (left_between (stands.requests ++ bytes_of life.acknowledged) life.in_doubt new.zone.zone new.files new.is_second new.generation step.made step.files next (left.first, left.second)),
          few most some first old life serves,
        )

  -- two empty files stand for no requests
  nothing : StandForRequests by disks base [] (record { first = []; second = [] })
  nothing = record {
    entries = [];
    requests = [];
    stand = ([], [], none, none, inl (omega arith, refl));
    may = refl;
    mean = mean_of identity same_type base soa [] [] base (record { made = base; redone = refl; same = λ r. refl; others = refl }) (recalls_all [] base base refl);
  }
    where
      none : StandsFor [] []
      none = ended (λ entry rest small e. absurd (cc))

  whole_run : (most : ℕ) → 1 ≤ most → (lives : List Life) (at : OnDisk) → RunOfTwo by disks most base lives at → StandForRequests by disks base lives at × AtMostInDoubt most lives
  whole_run most some [] at unborn = (nothing, tt)
  whole_run most some (life ∷ lives) next (lived {at = at} run lives_on) =
      let so_far = whole_run most some lives at run in
      let last = one_life lives at so_far.0 most some life next lives_on in
      (last.0, (last.1, so_far.1))

  pub compacted_runs_are_kept : (most : ℕ) → 1 ≤ most → (lives : List Life) (at : OnDisk) → RunOfTwo by disks most base lives at → AreKept by disks most base lives at
  compacted_runs_are_kept most some lives at run =
      let all = whole_run most some lives at run in
      record {
        stands = all.0;
        few_in_doubt = all.1;
        served = λ first server life s serves. (
          all.0.requests,
          all.0.may,
          start_made lives at all.0 first s,
          (all_read most first server life serves all.0.requests (start lives at all.0 first s)).made,
        );
      }
