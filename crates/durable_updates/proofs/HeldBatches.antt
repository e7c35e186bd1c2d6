-- Updates that are held and then written are answered as one batch.
use Rattle.std.proofs.Common.{◌≡◌, ◌∙◌, ℕ, List, [], ◌∷◌, ◌++◌, Bool, Option, Result, Ok, Err, ap, append_assoc, refl, subst, sym}
use Rattle.wire_messages.specs.declared.rr.tsig.TSigResponseContext.{TSigResponseContext}
use Rattle.hickory_base.specs.requests.Requests.{ReceivedRequest}
use Rattle.hickory_base.specs.declared.errors.UpdateFault.{UpdateFault}
use Rattle.hickory_store.specs.updates.UpdatableZone.{UpdatableZone}
use Rattle.hickory_store.specs.declared.updates.verifier.Verifier.{Ghosts}
use Rattle.sqlite_disk.specs.declared.Disk.{Ghosts as DiskGhosts}
use Rattle.durable_updates.specs.Batches.{AnswersEach, AnswersRead, accepted, bytes_of, if_accepted}
use Rattle.durable_updates.specs.DurableUpdates.{IsWriteFault, Told}
use Rattle.durable_updates.specs.Held.{AreHeld, HeldAreABatch, UnwrittenAreABatch, more, none}
use Rattle.durable_updates.specs.Journalling.{JournalsAll, RefusesEntries}

module _ {V : Type 0} (by : Ghosts V) where
  -- one more is answered
  each_more : (requests : List (ReceivedRequest × ℕ)) (told : List Told) (first old new : UpdatableZone V) (request : ReceivedRequest) (now : ℕ) (answer : Result Bool UpdateFault) (context : Option TSigResponseContext)
      → AnswersEach by requests told first old → AnswersRead by old (request, now) (answer, context) new
      → AnswersEach by (requests ++ (request, now) ∷ []) (told ++ (answer, context) ∷ []) first new
  each_more [] [] first old new request now answer context each one =
      (new, subst (λ (z : UpdatableZone V). AnswersRead by z (request, now) (answer, context) new) each one, refl)
  each_more [] (t ∷ told) first old new request now answer context each one = absurd each
  each_more (r ∷ requests) [] first old new request now answer context each one = absurd each
  each_more (r ∷ requests) (t ∷ told) first old new request now answer context each one =
      (each.0, each.1, each_more requests told each.0 old new request now answer context each.2 one)

-- one more entry waits, where it is accepted
bytes_before : (r : ReceivedRequest) (answer : Result Bool UpdateFault) (others : List ReceivedRequest) → bytes_of (if_accepted answer r others) ≡ bytes_of (if_accepted answer r []) ++ bytes_of others
bytes_before r (Ok changed) others = refl
bytes_before r (Err fault) others = refl

accepted_more : {V : Type 0} (by : Ghosts V) (requests : List (ReceivedRequest × ℕ)) (told : List Told) (first old : UpdatableZone V) (request : ReceivedRequest × ℕ) (t : Told)
    → AnswersEach by requests told first old
    → bytes_of (accepted (requests ++ request ∷ []) (told ++ t ∷ [])) ≡ bytes_of (accepted requests told) ++ bytes_of (if_accepted t.0 request.0 [])
accepted_more by [] [] first old request t each = refl
accepted_more by [] (u ∷ told) first old request t each = absurd each
accepted_more by (r ∷ requests) [] first old request t each = absurd each
accepted_more by (r ∷ requests) (u ∷ told) first old request t each =
    bytes_before r.0 u.0 (accepted (requests ++ request ∷ []) (told ++ t ∷ []))
    ∙ ap (λ (l : List (List ℕ)). bytes_of (if_accepted u.0 r.0 []) ++ l) (accepted_more by requests told each.0 old request t each.2)
    ∙ sym (append_assoc (bytes_of (if_accepted u.0 r.0 [])) (bytes_of (accepted requests told)) (bytes_of (if_accepted t.0 request.0 [])))
    ∙ ap (λ (l : List (List ℕ)). l ++ bytes_of (if_accepted t.0 request.0 [])) (sym (bytes_before r.0 u.0 (accepted requests told)))

module _ {V : Type 0} (by : Ghosts V) where
  -- what is held was answered one after another, and its entries are those that were accepted
  answered : (first : UpdatableZone V) (requests : List (ReceivedRequest × ℕ)) (told : List Told) (ahead : UpdatableZone V) (entries : List (List ℕ)) → AreHeld by first requests told ahead entries
      → AnswersEach by requests told first ahead × (entries ≡ bytes_of (accepted requests told))
  answered first requests told ahead entries none = (refl, refl)
  answered first requests told ahead entries (more {requests = those} {told = earlier} {old = old} {before = before} request now answer context so_far one is) =
      let was = answered first those earlier old before so_far in (
        each_more by those earlier first old ahead request now answer context was.0 one,
        is ∙ ap (λ (l : List (List ℕ)). l ++ bytes_of (if_accepted answer request [])) was.1 ∙ sym (accepted_more by those earlier first old (request, now) (answer, context) was.0),
      )

module _ {V D : Type 0} (by : Ghosts V) (disks : DiskGhosts D) where
  pub held : HeldAreABatch by disks
  held requests told first ahead entries old new done holds journals =
      let was = answered by first requests told ahead entries holds in
      record {
        answers = record { judged = told; ahead = ahead; written = Ok done; each = was.0; ends = (refl, refl); err = tt };
        journals = subst (λ (l : List (List ℕ)). JournalsAll disks.seen disks.may_leave {T = Unit {0}} {E = UpdateFault} (Ok done) l old new) was.1 journals;
      }

  pub unwritten : UnwrittenAreABatch by disks
  unwritten requests told first ahead entries old new fault holds why journals =
      let was = answered by first requests told ahead entries holds in
      record {
        answers = record {
          judged = told;
          ahead = ahead;
          written = Err fault;
          each = was.0;
          ends = (refl, refl);
          err = subst (λ (l : List (List ℕ)). IsWriteFault (RefusesEntries new.is_open l) fault) was.1 why;
        };
        journals = subst (λ (l : List (List ℕ)). JournalsAll disks.seen disks.may_leave {T = Unit {0}} {E = UpdateFault} (Err fault) l old new) was.1 journals;
      }
