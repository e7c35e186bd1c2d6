-- The requests of a batch that are answered Ok: what they make of the zone, and how many they are.
use Rattle.std.proofs.Common.{◌≡◌, ℕ, suc, ◌≤◌, Bool, true, false, inl, inr, OnOk, List, [], ◌∷◌, length, Option, Some, None, Result, Ok, Err, ap, refl, subst, arith}
use Rattle.wire_messages.specs.declared.rr.rdata.RData.{RData}
use Rattle.wire_messages.specs.declared.rr.record.Record.{Record}
use Rattle.wire_messages.specs.declared.rr.tsig.TSigResponseContext.{TSigResponseContext}
use Rattle.hickory_base.specs.requests.Requests.{ReceivedRequest}
use Rattle.hickory_base.specs.requests.RequestReading.{message_of}
use Rattle.hickory_base.specs.requests.Updates.{update_of}
use Rattle.hickory_base.specs.zone_store.ZoneAnswers.{MemoryZone}
use Rattle.hickory_base.specs.zone_store.ZoneSets.{zone_records}
use Rattle.hickory_base.specs.declared.errors.UpdateFault.{UpdateFault}
use Rattle.hickory_store.specs.updates.Permission.{update_permission}
use Rattle.hickory_store.specs.updates.Prerequisites.{prerequisite_section_refusal}
use Rattle.hickory_store.specs.updates.Prescan.{prescan_refusal}
use Rattle.hickory_store.specs.updates.UpdatableZone.{UpdatableZone}
use Rattle.hickory_store.specs.updates.UpdateAnswers.{AnswersUpdate, IsOutcome, Outcome, applied, unless_refused}
use Rattle.hickory_store.specs.declared.updates.verifier.Verifier.{Ghosts}
use Rattle.durable_updates.specs.Batches.{AnswersEach, AnswersRead, accepted, bytes_of, if_accepted}
use Rattle.durable_updates.specs.DurableUpdates.{AnswersDurably, Told}
use Rattle.durable_updates.specs.ReadRequests.{AreRead, IsRead}
use Rattle.durable_updates.specs.Redone.{Leaves, Makes, Redone}
use Rattle.hickory_base.specs.declared.errors.UpdateFault.TheVariants.{Code}

-- what is answered Ok was refused nowhere
none_refused : (a b c : Option ℕ) (o : Outcome) (records : List (Record RData)) (changed : Bool) → IsOutcome (unless_refused a (unless_refused b (unless_refused c o))) records changed → (c ≡ None) × IsOutcome o records changed
none_refused None None None o records changed is = (refl, is)
none_refused None None (Some code) o records changed is = absurd is
none_refused None (Some code) c o records changed is = absurd is
none_refused (Some code) b c o records changed is = absurd is

leaves : (o : Outcome) (changed : Bool) (old new : MemoryZone) → IsOutcome o (zone_records new.sets) changed → new ≡ record old { sets = new.sets } → Leaves o old new
leaves (Ok outcome) changed old new is rest = (is.0, rest)
leaves (Err code) changed old new is rest = absurd is

module _ {V : Type 0} (by : Ghosts V) where
  makes : (r : ReceivedRequest) (now : ℕ) (changed : Bool) (context : Option TSigResponseContext) (old new : UpdatableZone V) → AnswersUpdate true by old (r, now) (Ok changed) context new → Makes (update_of r.message).updates old.zone new.zone
  makes r now changed context old new answers =
      let updates : List (Record RData) = (update_of r.message).updates in
      let o : Outcome = applied true old.zone.origin (zone_records old.zone.sets) (update_of r.message).updates true in
      let is = none_refused (update_permission by old.verifier old.allow_update r now).refusal
      (prerequisite_section_refusal old.zone.origin (zone_records old.zone.sets) (update_of r.message).prerequisites)
      (prescan_refusal old.zone.origin (update_of r.message).updates)
      (applied true old.zone.origin (zone_records old.zone.sets) (update_of r.message).updates true) (zone_records new.zone.sets) changed answers.0.0 in
      record { accepted = is.0; done = leaves (applied true old.zone.origin (zone_records old.zone.sets) (update_of r.message).updates true) changed old.zone new.zone is.1 answers.0.1 }

  one_redone : (r : ReceivedRequest) (now : ℕ) (answer : Result Bool UpdateFault) (context : Option TSigResponseContext) (others : List ReceivedRequest) (old between new : UpdatableZone V)
      → AnswersRead by old (r, now) (answer, context) between → Redone (bytes_of others) between.zone new.zone → Redone (bytes_of (if_accepted answer r others)) old.zone new.zone
  one_redone r now (Ok changed) context others old between new answers rest = by_kind answers.0
    where
      by_kind : AnswersDurably (r.was_read ≡ false) by old (r, now) (Ok changed, context) between → Redone (bytes_of (r ∷ others)) old.zone new.zone
      by_kind (inl update) = (between.zone, record { message = message_of r.message; reads = answers.1; made = makes r now changed context old between update }, rest)
      by_kind (inr unwritten) = absurd (let ends : Ok changed ≡ Err (Code 2) = unwritten.0 in cc)
  one_redone r now (Err fault) context others old between new answers rest = subst (λ (z : MemoryZone). Redone (bytes_of others) z new.zone) (same answers.0) rest
    where
      same : AnswersDurably (r.was_read ≡ false) by old (r, now) (Err fault, context) between → between.zone ≡ old.zone
      same (inl update) = update.0.1
      same (inr unwritten) = ap (λ (z : UpdatableZone V). z.zone) unwritten.1

  pub each_redone : (requests : List (ReceivedRequest × ℕ)) (told : List Told) (old new : UpdatableZone V) → AnswersEach by requests told old new → Redone (bytes_of (accepted requests told)) old.zone new.zone
  each_redone [] [] old new each = ap (λ (z : UpdatableZone V). z.zone) each
  each_redone [] (t ∷ told) old new each = absurd each
  each_redone (r ∷ requests) [] old new each = absurd each
  each_redone (r ∷ requests) (t ∷ told) old new each =
      one_redone r.0 r.1 t.0 t.1 (accepted requests told) old each.0 new each.1 (each_redone requests told each.0 new each.2)

  pub one_read : (r : ReceivedRequest) (answer : Result Bool UpdateFault) (others : List ReceivedRequest) → OnOk answer (IsRead r) → AreRead others → AreRead (if_accepted answer r others)
  one_read r (Ok changed) others read rest = (read, rest)
  one_read r (Err fault) others read rest = rest

  pub accepted_read : (requests : List (ReceivedRequest × ℕ)) (told : List Told) (old new : UpdatableZone V) → AnswersEach by requests told old new → AreRead (accepted requests told)
  accepted_read [] told old new each = tt
  accepted_read (r ∷ requests) [] old new each = tt
  accepted_read (r ∷ requests) (t ∷ told) old new each = one_read r.0 t.0 (accepted requests told) each.1.1 (accepted_read requests told each.0 new each.2)

one_few : (n : ℕ) (r : ReceivedRequest) (answer : Result Bool UpdateFault) (others : List ReceivedRequest) → length others ≤ n → length (if_accepted answer r others) ≤ suc n
one_few n r (Ok changed) others few = omega arith
one_few n r (Err fault) others few = omega arith

few : (requests : List (ReceivedRequest × ℕ)) (told : List Told) → length (accepted requests told) ≤ length requests
few [] told = omega arith
few (r ∷ requests) [] = omega arith
few (r ∷ requests) (t ∷ told) = one_few (length requests) r.0 t.0 (accepted requests told) (few requests told)

pub accepted_few : (most : ℕ) (requests : List (ReceivedRequest × ℕ)) (told : List Told) → length requests ≤ most → length (accepted requests told) ≤ most
accepted_few most requests told at_most = omega (arith, few requests told)
