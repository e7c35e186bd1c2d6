-- Updates that are held: what waits to be written makes the zone in memory of one that the journal keeps.
use Rattle.std.proofs.Common.{◌≡◌, ◌⊎◌, inl, inr, ◌∙◌, ℕ, IsTrue, OnErr, OnOk, List, [], ◌∷◌, ◌++◌, Bool, true, false, Option, None, Some, Result, Ok, Err, option_map, ap, refl, subst, sym}
use Rattle.std.specs.Option.{is_some}
use Rattle.std.specs.Result.{is_err}
use Rattle.wire_messages.specs.declared.rr.tsig.TSigResponseContext.{TSigResponseContext}
use Rattle.hickory_base.specs.requests.Requests.{ReceivedRequest}
use Rattle.hickory_base.specs.zone_store.ZoneAnswers.{MemoryZone}
use Rattle.hickory_base.specs.declared.errors.UpdateFault.{UpdateFault}
use Rattle.hickory_store.specs.updates.UpdatableZone.{UpdatableZone}
use Rattle.hickory_store.specs.declared.updates.verifier.Verifier.{Ghosts}
use Rattle.sqlite_disk.specs.declared.Disk.{Ghosts as DiskGhosts}
use Rattle.journal.specs.JournalState.{JournalState}
use Rattle.durable_updates.specs.Batches.{AnswersRead, bytes_of, if_accepted}
use Rattle.durable_updates.specs.Holding.{IsAhead, IsKeptBut}
use Rattle.durable_updates.specs.Journalling.{JournalsAll}
use Rattle.durable_updates.specs.Recorded.{IsDurable}
use Rattle.durable_updates.specs.Redone.{Redone}
use Rattle.durable_updates.specs.ReadRequests.{AreRead, those_read}
use Rattle.durable_updates.specs.Runs.{Server, ServesOne, after_answer}
use Rattle.durable_updates.proofs.Accepted.{each_redone, one_read}
use Rattle.durable_updates.proofs.Entries.{more, nothing_done}
use Rattle.durable_updates.proofs.Histories.{Took, bytes_more, one_on, step_on}

module _ {D : Type 0} (disks : DiskGhosts D) where
  -- where nothing is held, the journal keeps the zone
  pub nothing_held : {T : Type 0} (f : T → List (List ℕ)) (held : Option T) (zone : MemoryZone) (journal : JournalState D) → is_some held ≡ false → IsKeptBut disks zone journal (option_map f held) → IsDurable disks zone journal
  nothing_held f None zone journal none kept = kept
  nothing_held f (Some entries) zone journal none kept = absurd (cc)

  -- nothing waits yet
  pub none_held : (zone : MemoryZone) (journal : JournalState D) → IsDurable disks zone journal → IsAhead disks zone journal []
  none_held zone journal durable = record { requests = []; are = refl; read = tt; written = zone; durable = durable; made = nothing_done zone }

all_read : (first others : List ReceivedRequest) → AreRead first → AreRead others → AreRead (first ++ others)
all_read [] others read rest = rest
all_read (r ∷ first) others read rest = (read.0, all_read first others read.1 rest)

module _ {V D : Type 0} (by : Ghosts V) (disks : DiskGhosts D) where
  -- one update more
  pub more_held : (r : ReceivedRequest) (now : ℕ) (answer : Result Bool UpdateFault) (context : Option TSigResponseContext) (old new : UpdatableZone V) (journal : JournalState D) (before after : List (List ℕ))
      → AnswersRead by old (r, now) (answer, context) new → after ≡ before ++ bytes_of (if_accepted answer r []) → IsAhead disks old.zone journal before → IsAhead disks new.zone journal after
  more_held r now answer context old new journal before after answers is ahead =
      let added : List ReceivedRequest = if_accepted answer r [] in
      let bytes : bytes_of (ahead.requests ++ added) ≡ bytes_of ahead.requests ++ bytes_of added = bytes_more [] ahead.requests added in
      record {
        requests = ahead.requests ++ added;
        read = all_read ahead.requests added ahead.read (one_read by r answer [] answers.1 tt);
        are = is ∙ ap (λ (l : List (List ℕ)). l ++ bytes_of added) ahead.are ∙ sym bytes;
        written = ahead.written;
        durable = ahead.durable;
        made =
            subst (λ (l : List (List ℕ)). Redone l ahead.written new.zone) (sym bytes)
            (more (bytes_of ahead.requests) (bytes_of added) ahead.written old.zone new.zone ahead.made
            (each_redone by ((r, now) ∷ []) ((answer, context) ∷ []) old new (new, answers, refl)));
      }

  module _ (zone : UpdatableZone V) (old new : JournalState D) (entries : List (List ℕ)) (ahead : IsAhead disks zone.zone old entries) (clean : disks.is_clean new.disk ≡ disks.is_clean old.disk) where
    abbrev before : UpdatableZone V
    before = record zone { zone = ahead.written }

    -- what waited is written
    pub settled : (done : Unit {0}) → JournalsAll disks.seen disks.may_leave {T = Unit {0}} {E = UpdateFault} (Ok done) entries old new → IsDurable disks zone.zone new
    settled done journals = λ is_clean.
        let was = ahead.durable (subst IsTrue clean is_clean) in
        let took : Took by disks {T = Unit {0}} ahead.requests (Ok done) (record { zone = before; journal = old }) (record { zone = zone; journal = new }) =
        record {
          made = ahead.made;
          kept = tt;
          journals = subst (λ (l : List (List ℕ)). JournalsAll disks.seen disks.may_leave {T = Unit {0}} {E = UpdateFault} (Ok done) l old new) ahead.are journals;
        } in (
          was.0,
          was.1,
          was.2,
          after_answer {T = Unit {0}} was.3 ahead.requests (Ok done) new.is_open,
          was.4,
          step_on by disks was.2 was.1 {T = Unit {0}} was.3 ahead.requests (Ok done) (record { zone = before; journal = old }) (record { zone = zone; journal = new }) was.5 took,
        )

    -- it is not, and waits still
    pub unsettled : (fault : UpdateFault) → JournalsAll disks.seen disks.may_leave {T = Unit {0}} {E = UpdateFault} (Err fault) entries old new → IsAhead disks zone.zone new entries
    unsettled fault journals = record {
      requests = ahead.requests;
      are = ahead.are;
      read = ahead.read;
      written = ahead.written;
      durable = λ is_clean.
          let was = ahead.durable (subst IsTrue clean is_clean) in
          let took : Took by disks {T = Unit {0}} ahead.requests (Err fault) (record { zone = before; journal = old }) (record { zone = before; journal = new }) =
          record {
            made = tt;
            kept = refl;
            journals = subst (λ (l : List (List ℕ)). JournalsAll disks.seen disks.may_leave {T = Unit {0}} {E = UpdateFault} (Err fault) l old new) ahead.are journals;
          } in (
            was.0,
            was.1,
            was.2,
            after_answer {T = Unit {0}} was.3 ahead.requests (Err fault) new.is_open,
            was.4,
            step_on by disks was.2 was.1 {T = Unit {0}} was.3 ahead.requests (Err fault) (record { zone = before; journal = old }) (record { zone = before; journal = new }) was.5 took,
          );
      made = ahead.made;
    }

    -- by what was answered
    pub written : (result : Result (Unit {0}) UpdateFault) → is_err result ≡ false → JournalsAll disks.seen disks.may_leave result entries old new → IsDurable disks zone.zone new
    written (Ok done) good journals = settled done journals
    written (Err fault) good journals = absurd (cc)

    pub waits : (result : Result (Unit {0}) UpdateFault) → is_err result ≡ true → JournalsAll disks.seen disks.may_leave result entries old new → IsAhead disks zone.zone new entries
    waits (Ok done) bad journals = absurd (cc)
    waits (Err fault) bad journals = unsettled fault journals

  -- ---- an update that is not held

  module _ (r : ReceivedRequest) (now : ℕ) (answer : Result Bool UpdateFault) (context : Option TSigResponseContext) (old new : Server V D) (serves : ServesOne by disks r now answer context old new)
      (clean : disks.is_clean new.journal.disk ≡ disks.is_clean old.journal.disk) where
    kept_on : IsDurable disks old.zone.zone old.journal → IsDurable disks new.zone.zone new.journal
    kept_on kept is_clean =
        let was = kept (subst IsTrue clean is_clean) in (
          was.0,
          was.1,
          was.2,
          after_answer was.3 (those_read (r ∷ [])) answer new.journal.is_open,
          was.4,
          one_on by disks was.2 was.1 was.3 r now answer context old new was.5 serves,
        )

    -- A shut journal takes no entry, and the zone stays.
    left : (result : Result Bool UpdateFault) → old.journal.is_open ≡ false → OnOk result ((old.journal.is_open ≡ true) × (new.journal.is_open ≡ true))
        → OnErr result ((new.journal ≡ old.journal) ⊎ ((old.journal.is_open ≡ true) × (new.journal.is_open ≡ false))) → OnErr result (new.zone ≡ old.zone) → (new.journal ≡ old.journal) × (new.zone ≡ old.zone)
    left (Ok changed) shut opened refused kept = absurd (let no : true ≡ false = sym opened.0 ∙ shut in cc)
    left (Err fault) shut opened (inl same) kept = (same, kept)
    left (Err fault) shut opened (inr failed) kept = absurd (let no : true ≡ false = sym failed.0 ∙ shut in cc)

    -- Nothing is held, or the journal takes no entry.
    pub kept_but : (held : Option (List (List ℕ))) → (held ≡ None) ⊎ (old.journal.is_open ≡ false) → IsKeptBut disks old.zone.zone old.journal held → IsKeptBut disks new.zone.zone new.journal held
    kept_but None why kept = kept_on kept
    kept_but (Some entries) (inl none) ahead = absurd (cc)
    kept_but (Some entries) (inr shut) ahead =
        let same = left answer shut serves.journals.opened serves.journals.refused serves.kept in
        subst (λ (j : JournalState D). IsAhead disks new.zone.zone j entries) (sym same.0) (subst (λ (z : UpdatableZone V). IsAhead disks z.zone old.journal entries) (sym same.1) ahead)
