-- A batch that was judged, once it is written or taken back.
use Rattle.std.proofs.Common.{◌≡◌, ◌∙◌, ℕ, List, IfErr, IfOk, Result, Ok, Err, ap, subst, sym}
use Rattle.wire_messages.specs.declared.rr.rdata.RData.{RData}
use Rattle.wire_messages.specs.declared.rr.record.Record.{Record}
use Rattle.wire_messages.specs.declared.rr.rr_key.RrKey.{RrKey}
use Rattle.hickory_base.specs.requests.Requests.{ReceivedRequest}
use Rattle.hickory_base.specs.zone_store.ZoneAnswers.{MemoryZone}
use Rattle.hickory_base.specs.declared.errors.UpdateFault.{UpdateFault}
use Rattle.hickory_store.specs.updates.UpdatableZone.{UpdatableZone}
use Rattle.hickory_store.specs.declared.updates.verifier.Verifier.{Ghosts}
use Rattle.sqlite_disk.specs.declared.Disk.{Ghosts as DiskGhosts}
use Rattle.journal.specs.JournalState.{JournalState}
use Rattle.durable_updates.specs.Batches.{AnswersBatch, AnswersEach, EndsAs, accepted, bytes_of}
use Rattle.durable_updates.specs.Commits.{Commits, IsToldAs}
use Rattle.durable_updates.specs.DurableUpdates.{IsWriteFault, Told}
use Rattle.durable_updates.specs.Journalling.{JournalsAll, RefusesEntries}
use Rattle.durable_updates.specs.Runs.{Life, Server, ServesAll, after_answer}
use Rattle.durable_updates.proofs.Histories.{InStep, all_on}
use Rattle.durable_updates.proofs.Judging.{KeepsOthers, for_any_reason, put_back}

module _ {V D : Type 0} (by : Ghosts V) (disks : DiskGhosts D) where
  pub served : (requests : List (ReceivedRequest × ℕ)) (judged told : List Told) (old new : Server V D) (ahead : UpdatableZone V) (before : List (RrKey × List (Record RData))) (entries : List (List ℕ))
      → AnswersEach by requests judged old.zone ahead → entries ≡ bytes_of (accepted requests judged) → KeepsOthers old.zone ahead → before ≡ old.zone.zone.sets
      → Commits disks before entries judged told (record { zone = ahead; journal = old.journal }) new → ServesAll by disks requests told old new
  served requests judged told old new ahead before entries each is keeps sets commits = record {
    answers = record {
      judged = judged;
      ahead = ahead;
      written = commits.written;
      each = each;
      ends = ends commits.written commits.is_told;
      err = subst (λ (l : List (List ℕ)). IfErr commits.written (IsWriteFault (RefusesEntries new.journal.is_open l))) is commits.err;
    };
    journals = subst (λ (l : List (List ℕ)). JournalsAll disks.seen disks.may_leave commits.written l old.journal new.journal) is commits.journals;
  }
    where
      ends : (written : Result (Unit {0}) UpdateFault) → IsToldAs written before judged told ahead new.zone → EndsAs written judged told old.zone ahead new.zone
      ends (Ok done) is_told = is_told
      ends (Err fault) is_told = (is_told.0, put_back old.zone ahead new.zone keeps (is_told.1 ∙ ap (λ (s : List (RrKey × List (Record RData))). record ahead { zone = record ahead.zone { sets = s } }) sets))

  module _ {T E : Type 0} (told_of : T → List Told) (requests : List (ReceivedRequest × ℕ)) (old new : Server V D) where
    -- a handler after a call, whatever it answered
    pub in_step : (base : MemoryZone) (before : List (List ℕ)) (life : Life) (result : Result T E) → IfOk result (λ told. ServesAll by disks requests (told_of told) old new)
        → IfErr result (λ e. (new.zone ≡ old.zone) × (new.journal ≡ old.journal)) → InStep by disks base before life old → (next : Life) × InStep by disks base before next new
    in_step base before life (Ok told) all memory step =
        (after_answer life (accepted requests all.answers.judged) all.answers.written new.journal.is_open, all_on by disks base before life requests (told_of told) old new step all)
    in_step base before life (Err e) all memory step =
        (life, subst (λ (j : JournalState D). InStep by disks base before life (record { zone = new.zone; journal = j })) (sym memory.1) (subst (λ (z : UpdatableZone V). InStep by disks base before life (record { zone = z; journal = old.journal })) (sym memory.0) step))

    -- what it tells of the zone alone
    pub of_the_zone : (result : Result T E) → IfOk result (λ told. ServesAll by disks requests (told_of told) old new) → IfOk result (λ told. AnswersBatch (λ entries. Unit {0}) by requests (told_of told) old.zone new.zone)
    of_the_zone (Ok told) all = for_any_reason (RefusesEntries new.journal.is_open) by requests (told_of told) old.zone new.zone all.answers
    of_the_zone (Err e) all = tt
