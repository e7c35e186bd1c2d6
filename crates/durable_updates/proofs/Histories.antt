-- What a server and its journal keep while requests are answered, and what a crash leaves.
use Rattle.std.proofs.Common.{◌≡◌, ◌⊎◌, inl, inr, ℕ, ◌≤◌, Bool, true, false, List, [], ◌∷◌, ◌++◌, length, OnErr, OnOk, Option, Result, Ok, Err, sym, ◌∙◌, ap, subst, refl, append_assoc, arith, cond}
use Rattle.std.proofs.lemmas.List.{append-nil}
use Rattle.wire_messages.specs.declared.rr.tsig.TSigResponseContext.{TSigResponseContext}
use Rattle.hickory_base.specs.requests.Requests.{ReceivedRequest}
use Rattle.hickory_base.specs.requests.RequestReading.{message_of}
use Rattle.hickory_base.specs.zone_store.ZoneAnswers.{MemoryZone}
use Rattle.hickory_base.specs.declared.errors.UpdateFault.{UpdateFault}
use Rattle.hickory_store.specs.updates.UpdatableZone.{UpdatableZone}
use Rattle.hickory_store.specs.declared.updates.verifier.Verifier.{Ghosts}
use Rattle.sqlite_disk.specs.declared.Disk.{Ghosts as DiskGhosts}
use Rattle.journal.specs.Frames.{IsBeforeOrAfter, StandsFor, ended}
use Rattle.journal.specs.JournalState.{JournalState}
use Rattle.journal.specs.Read.{contents}
use Rattle.journal.specs.Settled.{IsSettled}
use Rattle.journal.proofs.Steps.{rests}
use Rattle.journal.proofs.Recovery.{unique}
use Rattle.durable_updates.specs.Batches.{EndsAs, accepted, bytes_of}
use Rattle.durable_updates.specs.DurableUpdates.{Told}
use Rattle.durable_updates.specs.Journalling.{JournalsAll}
use Rattle.durable_updates.specs.Recorded.{IsFailed, IsOpen, IsRecorded}
use Rattle.durable_updates.specs.ReadRequests.{AreRead, those_read}
use Rattle.durable_updates.specs.Redone.{Redone}
use Rattle.durable_updates.specs.Runs.{AtMostInDoubt, IsKept, IsLife, Life, MayStand, Run, Server, Serves, ServesAll, ServesOne, Starts, after_answer, answered, answered_all, begun, between_requests, cut_short, doubted, lived, unborn, unused, while_starting, within_batch, within_request}
use Rattle.durable_updates.proofs.Accepted.{accepted_few, accepted_read, each_redone}
use Rattle.durable_updates.proofs.Entries.{more, nothing_done}
use Rattle.durable_updates.proofs.Untouched.{untouched}

pub bytes_more : (entries : List (List ℕ)) (first others : List ReceivedRequest) → entries ++ bytes_of (first ++ others) ≡ (entries ++ bytes_of first) ++ bytes_of others
bytes_more entries first others = ap (λ (l : List (List ℕ)). entries ++ l) (each first) ∙ sym (append_assoc entries (bytes_of first) (bytes_of others))
  where
    each : (first : List ReceivedRequest) → bytes_of (first ++ others) ≡ bytes_of first ++ bytes_of others
    each [] = refl
    each (q ∷ first) = ap (λ (l : List (List ℕ)). q.bytes ∷ l) (each first)

-- of one request at most one was read
pub one_few : (most : ℕ) (r : ReceivedRequest) → 1 ≤ most → length (those_read (r ∷ [])) ≤ most
one_few most r some = by_kind r.was_read
  where
    by_kind : (b : Bool) → length (cond b (r ∷ []) []) ≤ most
    by_kind true = some
    by_kind false = omega arith

pub true_not_false : {P : Type 0} (b : Bool) → b ≡ true → b ≡ false → P
true_not_false true p q = absurd (cc)
true_not_false false p q = absurd (cc)

-- what is in doubt stays so, whatever comes
still_doubted : (doubt requests : List ReceivedRequest) (entries : List (List ℕ)) (c : List ℕ) → IsBeforeOrAfter entries (bytes_of doubt) c → IsBeforeOrAfter entries (bytes_of (doubted doubt requests)) c
still_doubted [] requests entries c (inl stands) = inl stands
still_doubted [] requests entries c (inr stands) = inl (subst (StandsFor c) (append-nil entries) stands)
still_doubted (first ∷ others) requests entries c left = left

pub few_doubted : (most : ℕ) (doubt requests : List ReceivedRequest) → length doubt ≤ most → length requests ≤ most → length (doubted doubt requests) ≤ most
few_doubted most [] requests few next = next
few_doubted most (first ∷ others) requests few next = few

pub few_after : {T : Type 0} (most : ℕ) (life : Life) (requests : List ReceivedRequest) (written : Result T UpdateFault) (is_open : Bool) → length life.in_doubt ≤ most → length requests ≤ most → length (after_answer life requests written is_open).in_doubt ≤ most
few_after most life requests (Ok told) is_open few next = few
few_after most life requests (Err fault) true few next = few
few_after most life requests (Err fault) false few next = few_doubted most life.in_doubt requests few next

module _ {V D : Type 0} (by : Ghosts V) (disks : DiskGhosts D) where
  abbrev pub InStep : MemoryZone → List (List ℕ) → Life → Server V D → Type 0
  InStep base before life server = IsRecorded disks base before life server.zone.zone server.journal

  -- a call wrote these requests and made them, or did not
  pub record Took {T : Type 0} (requests : List ReceivedRequest) (written : Result T UpdateFault) (old new : Server V D) : Type 0 where
    pub made : OnOk written (Redone (bytes_of requests) old.zone.zone new.zone.zone)
    pub kept : OnErr written (new.zone ≡ old.zone)
    pub journals : JournalsAll disks.seen disks.may_leave written (bytes_of requests) old.journal new.journal

  one_read : (r : ReceivedRequest) (now : ℕ) (answer : Result Bool UpdateFault) (context : Option TSigResponseContext) (old new : Server V D) → ServesOne by disks r now answer context old new → r.was_read ≡ true → Took (r ∷ []) answer old new
  one_read r now (Ok changed) context old new one is = record {
    made = (new.zone.zone, record { message = message_of r.message; reads = one.read is; made = one.made }, refl);
    kept = tt;
    journals = record { acknowledged = one.journals.acknowledged; opened = inr one.journals.opened; refused = tt; crash = one.journals.crash };
  }
  one_read r now (Err fault) context old new one is = record {
    made = tt;
    kept = one.kept;
    journals = record { acknowledged = tt; opened = tt; refused = one.journals.refused; crash = one.journals.crash };
  }

  one_unread : (r : ReceivedRequest) (now : ℕ) (answer : Result Bool UpdateFault) (context : Option TSigResponseContext) (old new : Server V D) → ServesOne by disks r now answer context old new → r.was_read ≡ false → Took [] answer old new
  one_unread r now (Ok changed) context old new one is = true_not_false r.was_read one.accepted is
  one_unread r now (Err fault) context old new one is = record {
    made = tt;
    kept = one.kept;
    journals = subst (λ (j : JournalState D). JournalsAll disks.seen disks.may_leave {T = Bool} {E = UpdateFault} (Err fault) [] old.journal j) (sym (one.unread is)) (untouched disks.seen disks.may_leave fault old.journal);
  }

  -- a request that was read was written and made, or not; any other was not written
  pub took_one : (r : ReceivedRequest) (now : ℕ) (answer : Result Bool UpdateFault) (context : Option TSigResponseContext) (old new : Server V D) → ServesOne by disks r now answer context old new → Took (those_read (r ∷ [])) answer old new
  took_one r now answer context old new one = by_kind r.was_read refl
    where
      by_kind : (b : Bool) → r.was_read ≡ b → Took (cond b (r ∷ []) []) answer old new
      by_kind true is = one_read r now answer context old new one is
      by_kind false is = one_unread r now answer context old new one is

  pub one_is_read : (r : ReceivedRequest) (now : ℕ) (answer : Result Bool UpdateFault) (context : Option TSigResponseContext) (old new : Server V D) → ServesOne by disks r now answer context old new → AreRead (those_read (r ∷ []))
  one_is_read r now answer context old new one = by_kind r.was_read refl
    where
      by_kind : (b : Bool) → r.was_read ≡ b → AreRead (cond b (r ∷ []) [])
      by_kind true is = (one.read is, tt)
      by_kind false is = tt

  pub all_are_read : (requests : List (ReceivedRequest × ℕ)) (told : List Told) (old new : Server V D) (all : ServesAll by disks requests told old new) → AreRead (accepted requests all.answers.judged)
  all_are_read requests told old new all = accepted_read by requests all.answers.judged old.zone all.answers.ahead all.answers.each

  pub took_all : (requests : List (ReceivedRequest × ℕ)) (told : List Told) (old new : Server V D) (all : ServesAll by disks requests told old new) → Took (accepted requests all.answers.judged) all.answers.written old new
  took_all requests told old new all = from all.answers.written all.answers.ends all.journals
    where
      from : (written : Result (Unit {0}) UpdateFault) → EndsAs written all.answers.judged told old.zone all.answers.ahead new.zone
          → JournalsAll disks.seen disks.may_leave written (bytes_of (accepted requests all.answers.judged)) old.journal new.journal → Took (accepted requests all.answers.judged) written old new
      from (Ok done) ends journals = record {
        made = subst (λ (z : UpdatableZone V). Redone (bytes_of (accepted requests all.answers.judged)) old.zone.zone z.zone) (sym ends.1)
            (each_redone by requests all.answers.judged old.zone all.answers.ahead all.answers.each);
        kept = tt;
        journals = journals;
      }
      from (Err fault) ends journals = record { made = tt; kept = ends.1; journals = journals }

  module _ (base : MemoryZone) (before : List (List ℕ)) where
    taken : {T : Type 0} (life : Life) (requests : List ReceivedRequest) (told : T) (old new : Server V D)
        → InStep base before life old → Took requests (Ok told) old new → (is_open : Bool) → InStep base before (after_answer {T = T} life requests (Ok told) is_open) new
    taken life requests told old new step took is_open = record {
      redone =
          subst (λ (l : List (List ℕ)). Redone l base new.zone.zone) (sym (bytes_more [] life.acknowledged requests))
          (more (bytes_of life.acknowledged) (bytes_of requests) base old.zone.zone new.zone.zone step.redone took.made);
      journal_is = by_journal step.journal_is took.journals.opened;
    }
      where
        by_journal : IsOpen disks (before ++ bytes_of life.acknowledged) life.in_doubt old.journal ⊎ IsFailed disks (before ++ bytes_of life.acknowledged) life.in_doubt old.journal
            → ((bytes_of requests ≡ []) × (new.journal ≡ old.journal)) ⊎ ((old.journal.is_open ≡ true) × (new.journal.is_open ≡ true))
            → IsOpen disks (before ++ bytes_of (life.acknowledged ++ requests)) life.in_doubt new.journal ⊎ IsFailed disks (before ++ bytes_of (life.acknowledged ++ requests)) life.in_doubt new.journal
        by_journal (inl o) opened = inl (record {
          takes = is_taking opened;
          none = o.none;
          settled = subst (λ (l : List (List ℕ)). IsSettled disks.seen disks.may_leave new.journal l) (sym (bytes_more before life.acknowledged requests)) (took.journals.acknowledged (before ++ bytes_of life.acknowledged) o.settled);
        })
          where
            is_taking : ((bytes_of requests ≡ []) × (new.journal ≡ old.journal)) ⊎ ((old.journal.is_open ≡ true) × (new.journal.is_open ≡ true)) → new.journal.is_open ≡ true
            is_taking (inl alone) = ap (λ (j : JournalState D). j.is_open) alone.1 ∙ o.takes
            is_taking (inr both) = both.1
        by_journal (inr f) (inl alone) = inr (record {
          shut = ap (λ (j : JournalState D). j.is_open) alone.1 ∙ f.shut;
          leaves = λ c left. subst (λ (l : List (List ℕ)). IsBeforeOrAfter l (bytes_of life.in_doubt) c)
              (sym (append-nil (before ++ bytes_of life.acknowledged)) ∙ ap (λ (l : List (List ℕ)). (before ++ bytes_of life.acknowledged) ++ l) (sym alone.0) ∙ sym (bytes_more before life.acknowledged requests))
              (f.leaves c (subst (λ (j : JournalState D). disks.may_leave j.disk c) alone.1 left));
        })
        by_journal (inr f) (inr both) = true_not_false old.journal.is_open both.0 f.shut

    denied : {T : Type 0} (life : Life) (requests : List ReceivedRequest) (fault : UpdateFault) (old new : Server V D)
        → InStep base before life old → Took {T = T} requests (Err fault) old new → (is_open : Bool) → new.journal.is_open ≡ is_open → InStep base before (after_answer {T = T} life requests (Err fault) is_open) new
    denied life requests fault old new step took true is = record {
      redone = subst (λ (z : UpdatableZone V). Redone (bytes_of life.acknowledged) base z.zone) (sym took.kept) step.redone;
      journal_is = by_journal took.journals.refused;
    }
      where
        by_journal : (new.journal ≡ old.journal) ⊎ ((old.journal.is_open ≡ true) × (new.journal.is_open ≡ false))
            → IsOpen disks (before ++ bytes_of life.acknowledged) life.in_doubt new.journal ⊎ IsFailed disks (before ++ bytes_of life.acknowledged) life.in_doubt new.journal
        by_journal (inl same) = subst (λ (j : JournalState D). IsOpen disks (before ++ bytes_of life.acknowledged) life.in_doubt j ⊎ IsFailed disks (before ++ bytes_of life.acknowledged) life.in_doubt j) (sym same) step.journal_is
        by_journal (inr failed) = true_not_false new.journal.is_open is failed.1
    denied life requests fault old new step took false is = record {
      redone = subst (λ (z : UpdatableZone V). Redone (bytes_of life.acknowledged) base z.zone) (sym took.kept) step.redone;
      journal_is = by_journal step.journal_is took.journals.refused;
    }
      where
        by_journal : IsOpen disks (before ++ bytes_of life.acknowledged) life.in_doubt old.journal ⊎ IsFailed disks (before ++ bytes_of life.acknowledged) life.in_doubt old.journal
            → (new.journal ≡ old.journal) ⊎ ((old.journal.is_open ≡ true) × (new.journal.is_open ≡ false))
            → IsOpen disks (before ++ bytes_of life.acknowledged) (doubted life.in_doubt requests) new.journal ⊎ IsFailed disks (before ++ bytes_of life.acknowledged) (doubted life.in_doubt requests) new.journal
        by_journal (inl o) (inl same) = true_not_false new.journal.is_open (ap (λ (j : JournalState D). j.is_open) same ∙ o.takes) is
        by_journal (inl o) (inr failed) = inr (record {
          shut = is;
          leaves = λ c left. subst (λ d. IsBeforeOrAfter (before ++ bytes_of life.acknowledged) (bytes_of (doubted d requests)) c) (sym o.none) (took.journals.crash (before ++ bytes_of life.acknowledged) o.settled c left);
        })
        by_journal (inr f) (inl same) = inr (record {
          shut = is;
          leaves = λ c left. still_doubted life.in_doubt requests (before ++ bytes_of life.acknowledged) c (f.leaves c (subst (λ (j : JournalState D). disks.may_leave j.disk c) same left));
        })
        by_journal (inr f) (inr failed) = true_not_false old.journal.is_open failed.0 f.shut

    pub step_on : {T : Type 0} (life : Life) (requests : List ReceivedRequest) (written : Result T UpdateFault) (old new : Server V D)
        → InStep base before life old → Took requests written old new → InStep base before (after_answer life requests written new.journal.is_open) new
    step_on life requests (Ok told) old new step took = taken life requests told old new step took new.journal.is_open
    step_on life requests (Err fault) old new step took = denied life requests fault old new step took new.journal.is_open refl

    pub one_on : (life : Life) (r : ReceivedRequest) (now : ℕ) (answer : Result Bool UpdateFault) (context : Option TSigResponseContext) (old new : Server V D)
        → InStep base before life old → ServesOne by disks r now answer context old new → InStep base before (after_answer life (those_read (r ∷ [])) answer new.journal.is_open) new
    one_on life r now answer context old new step one = step_on life (those_read (r ∷ [])) answer old new step (took_one r now answer context old new one)

    pub all_on : (life : Life) (requests : List (ReceivedRequest × ℕ)) (told : List Told) (old new : Server V D)
        → InStep base before life old → (all : ServesAll by disks requests told old new) → InStep base before (after_answer life (accepted requests all.answers.judged) all.answers.written new.journal.is_open) new
    all_on life requests told old new step all = step_on life (accepted requests all.answers.judged) all.answers.written old new step (took_all requests told old new all)

    goes_on : (most : ℕ) (first server : Server V D) (life : Life) → InStep base before unused first → Serves by disks most first life server → InStep base before life server
    goes_on most first server life start begun = start
    goes_on most first server life start (answered {life = earlier} {old = old} r now answer context so_far one) =
        one_on earlier r now answer context old server (goes_on most first old earlier start so_far) one
    goes_on most first server life start (answered_all {life = earlier} {old = old} requests told so_far few all) =
        all_on earlier requests told old server (goes_on most first old earlier start so_far) all

    -- a crash between two calls
    left_between : (life : Life) (server : Server V D) → InStep base before life server → (c : List ℕ) → disks.may_leave server.journal.disk c → IsBeforeOrAfter (before ++ bytes_of life.acknowledged) (bytes_of life.in_doubt) c
    left_between life server step c left = from step.journal_is
      where
        from : IsOpen disks (before ++ bytes_of life.acknowledged) life.in_doubt server.journal ⊎ IsFailed disks (before ++ bytes_of life.acknowledged) life.in_doubt server.journal → IsBeforeOrAfter (before ++ bytes_of life.acknowledged) (bytes_of life.in_doubt) c
        from (inl o) = inl (rests disks.seen disks.may_leave server.journal.disk server.journal.end (before ++ bytes_of life.acknowledged) o.settled c left)
        from (inr f) = f.leaves c left

    -- a journal that takes no entry is left alone
    pub stays : {T : Type 0} (written : Result T UpdateFault) (requests : List ReceivedRequest) (old new : Server V D) → old.journal.is_open ≡ false → Took requests written old new → new.journal ≡ old.journal
    stays (Ok told) requests old new shut took = from took.journals.opened
      where
        from : ((bytes_of requests ≡ []) × (new.journal ≡ old.journal)) ⊎ ((old.journal.is_open ≡ true) × (new.journal.is_open ≡ true)) → new.journal ≡ old.journal
        from (inl alone) = alone.1
        from (inr both) = true_not_false old.journal.is_open both.0 shut
    stays (Err fault) requests old new shut took = from took.journals.refused
      where
        from : (new.journal ≡ old.journal) ⊎ ((old.journal.is_open ≡ true) × (new.journal.is_open ≡ false)) → new.journal ≡ old.journal
        from (inl same) = same
        from (inr failed) = true_not_false old.journal.is_open failed.0 shut

    -- a crash within a call
    left_within : {T : Type 0} (life : Life) (requests : List ReceivedRequest) (written : Result T UpdateFault) (old new : Server V D)
        → InStep base before life old → Took requests written old new → (c : List ℕ) → disks.may_leave new.journal.disk c → IsBeforeOrAfter (before ++ bytes_of life.acknowledged) (bytes_of (doubted life.in_doubt requests)) c
    left_within life requests written old new step took c left = from step.journal_is
      where
        from : IsOpen disks (before ++ bytes_of life.acknowledged) life.in_doubt old.journal ⊎ IsFailed disks (before ++ bytes_of life.acknowledged) life.in_doubt old.journal
            → IsBeforeOrAfter (before ++ bytes_of life.acknowledged) (bytes_of (doubted life.in_doubt requests)) c
        from (inl o) = subst (λ d. IsBeforeOrAfter (before ++ bytes_of life.acknowledged) (bytes_of (doubted d requests)) c) (sym o.none) (took.journals.crash (before ++ bytes_of life.acknowledged) o.settled c left)
        from (inr f) = still_doubted life.in_doubt requests (before ++ bytes_of life.acknowledged) c (f.leaves c (subst (λ (j : JournalState D). disks.may_leave j.disk c) (stays written requests old new f.shut took) left))

  few : (most : ℕ) → 1 ≤ most → (first server : Server V D) (life : Life) → Serves by disks most first life server → length life.in_doubt ≤ most
  few most some first server life begun = omega arith
  few most some first server life (answered {life = earlier} {old = old} r now answer context so_far one) =
      few_after most earlier (those_read (r ∷ [])) answer server.journal.is_open (few most some first old earlier so_far) (one_few most r some)
  few most some first server life (answered_all {life = earlier} {old = old} requests told so_far at_most all) =
      few_after most earlier (accepted requests all.answers.judged) all.answers.written server.journal.is_open (few most some first old earlier so_far) (accepted_few most requests all.answers.judged at_most)

  -- a server that has started
  pub started : (base : MemoryZone) (file : List ℕ) (server : Server V D) (s : Starts by disks base file server) → StandsFor file (contents s.found.entries.items) × InStep server.zone.zone (contents s.found.entries.items) unused server
  started base file server s =
      let E : List (List ℕ) = contents s.found.entries.items in (
        subst (λ f. StandsFor f (contents s.found.entries.items)) s.opens.there (s.opens.recovers.found s.opens.clean),
        record {
          redone = nothing_done server.zone.zone;
          journal_is = inl (record {
            takes = ap (λ (j : JournalState D). j.is_open) s.journal;
            none = refl;
            settled = subst (λ (l : List (List ℕ)). IsSettled disks.seen disks.may_leave server.journal l) (sym (append-nil (contents s.found.entries.items)))
                (subst (λ (j : JournalState D). IsSettled disks.seen disks.may_leave j (contents s.found.entries.items)) (sym s.journal) (s.opens.recovers.settled s.opens.clean));
          });
        },
      )

  abbrev Stands : List Life → List ℕ → Type 0
  Stands lives file = (entries : List (List ℕ)) × StandsFor file entries × MayStand lives entries

  -- what a server has recovered is what may stand
  recovered : (base : MemoryZone) (lives : List Life) (file : List ℕ) (server : Server V D) → Stands lives file → (s : Starts by disks base file server) → MayStand lives (contents s.found.entries.items)
  recovered base lives file server so_far s = subst (MayStand lives) (unique file so_far.0 (contents s.found.entries.items) so_far.1 (started base file server s).0) so_far.2

  left_by : (lives : List Life) (life : Life) (before : List (List ℕ)) (next : List ℕ) → MayStand lives before → IsBeforeOrAfter (before ++ bytes_of life.acknowledged) (bytes_of life.in_doubt) next → Stands (life ∷ lives) next
  left_by lives life before next may (inl stands) = (before ++ bytes_of life.acknowledged, stands, (before, may, inl refl))
  left_by lives life before next may (inr stands) = ((before ++ bytes_of life.acknowledged) ++ bytes_of life.in_doubt, stands, (before, may, inr refl))

  one_life : (most : ℕ) → 1 ≤ most → (base : MemoryZone) (lives : List Life) (file : List ℕ) (life : Life) (next : List ℕ) → Stands lives file → IsLife by disks most base file life next → Stands (life ∷ lives) next × (length life.in_doubt ≤ most)
  one_life most some base lives file life next so_far (while_starting opens left) =
      ((so_far.0, opens.recovers.crash opens.clean so_far.0 (subst (λ f. StandsFor f so_far.0) (sym opens.there) so_far.1) next left, (so_far.0, so_far.2, inl (sym (append-nil so_far.0)))), omega arith)
  one_life most some base lives file life next so_far (between_requests {first = first} {server = server} s serves left) =
      let step = goes_on first.zone.zone (contents s.found.entries.items) most first server life (started base file first s).1 serves in
      (left_by lives life (contents s.found.entries.items) next (recovered base lives file first so_far s) (left_between first.zone.zone (contents s.found.entries.items) life server step next left), few most some first server life serves)
  one_life most some base lives file life next so_far (within_request {life = earlier} {first = first} {old = old} {new = new} r now answer context s serves one left) =
      let step = goes_on first.zone.zone (contents s.found.entries.items) most first old earlier (started base file first s).1 serves in (
        left_by lives (cut_short earlier (those_read (r ∷ []))) (contents s.found.entries.items) next (recovered base lives file first so_far s)
            (left_within first.zone.zone (contents s.found.entries.items) earlier (those_read (r ∷ [])) answer old new step (took_one r now answer context old new one) next left),
        few_doubted most earlier.in_doubt (those_read (r ∷ [])) (few most some first old earlier serves) (one_few most r some),
      )
  one_life most some base lives file life next so_far (within_batch {life = earlier} {first = first} {old = old} {new = new} requests told s serves at_most all left) =
      let step = goes_on first.zone.zone (contents s.found.entries.items) most first old earlier (started base file first s).1 serves in (
        left_by lives (cut_short earlier (accepted requests all.answers.judged)) (contents s.found.entries.items) next (recovered base lives file first so_far s)
            (left_within first.zone.zone (contents s.found.entries.items) earlier (accepted requests all.answers.judged) all.answers.written old new step (took_all requests told old new all) next left),
        few_doubted most earlier.in_doubt (accepted requests all.answers.judged) (few most some first old earlier serves) (accepted_few most requests all.answers.judged at_most),
      )

  whole_run : (most : ℕ) → 1 ≤ most → (base : MemoryZone) (lives : List Life) (file : List ℕ) → Run by disks most base lives file → Stands lives file × AtMostInDoubt most lives
  whole_run most some base [] file unborn = (([], ended (λ entry rest small e. absurd (cc)), refl), tt)
  whole_run most some base (life ∷ lives) next (lived {file = file} run lives_on) =
      let so_far = whole_run most some base lives file run in
      let last = one_life most some base lives file life next so_far.0 lives_on in
      (last.0, (last.1, so_far.1))

  pub runs_are_kept : (most : ℕ) → 1 ≤ most → (base : MemoryZone) (lives : List Life) (file : List ℕ) → Run by disks most base lives file → IsKept by disks most base lives file
  runs_are_kept most some base lives file run =
      let all = whole_run most some base lives file run in
      record {
        stands = all.0;
        few_in_doubt = all.1;
        served = λ first server life s serves.
            let start = started base file first s in (
              contents s.found.entries.items,
              start.0,
              recovered base lives file first all.0 s,
              s.redone,
              more (contents s.found.entries.items) (bytes_of life.acknowledged) base first.zone.zone server.zone.zone s.redone
                  (goes_on first.zone.zone (contents s.found.entries.items) most first server life start.1 serves).redone,
            );
      }
