-- What an update that was made leaves of a zone, with a journal or without.
use Rattle.std.proofs.Common.{◌≡◌, ◌≢◌, ◌∙◌, inl, inr, ap, sym, subst, refl, ℕ, Bool, true, false, List, Option, Some, None, Result, Ok, Err, OnErr}
use Rattle.std.specs.Prelude.{IsTrue}
use Rattle.std.specs.declared.alloc.AllocError.{AllocError}
use Rattle.wire_names.specs.rr.domain.DomainName.{DomainName}
use Rattle.wire_messages.specs.declared.rr.rdata.RData.{RData}
use Rattle.wire_messages.specs.declared.rr.record.Record.{Record}
use Rattle.hickory_base.specs.requests.Requests.{ReceivedRequest, TimedRequest}
use Rattle.hickory_base.specs.requests.Updates.{UpdateMessage, update_of}
use Rattle.hickory_base.specs.zone_store.Lookups.{SignerContext, UpdateResult}
use Rattle.hickory_base.specs.zone_store.ZoneAnswers.{MemoryZone}
use Rattle.hickory_base.specs.zone_store.ZoneSets.{AreSetsInOrder, IsZone, zone_records}
use Rattle.hickory_base.specs.declared.errors.UpdateFault.TheVariants.{Code}
use Rattle.hickory_store.specs.updates.Permission.{update_permission}
use Rattle.hickory_store.specs.updates.Prerequisites.{prerequisite_section_refusal}
use Rattle.hickory_store.specs.updates.Prescan.{prescan_refusal}
use Rattle.hickory_store.specs.updates.UpdatableZone.{UpdatableZone}
use Rattle.hickory_store.specs.updates.UpdateAnswers.{AnswersUpdate, IsOutcome, Outcome, applied, unless_refused}
use Rattle.hickory_store.specs.declared.updates.verifier.Verifier.{Ghosts}
use Rattle.durable_updates.specs.DurableUpdates.{AnswersDurably, MayStayUnwritten, StaysUnwritten}
use Rattle.update_policy.specs.declared.policy.Rule.{Rule}
use Rattle.zone_differences.specs.Histories.{IsRecorded}
use Rattle.zone_differences.specs.Standing.{IsChangedBy, IsKnown, Records}
use Rattle.zone_differences.specs.declared.before.Before.{Before}
use Rattle.zone_differences.specs.declared.difference.Difference.{Difference}
use Rattle.zones.specs.KeptZones.{KeptZone}
use Rattle.zones.specs.Overviews.{Follows, IsOverview}
use Rattle.zones.specs.ZoneStates.{zone_state}
use Rattle.zones.specs.ZoneUpdates.{IsHistory, IsMade}
use Rattle.zones.specs.declared.overview.Overview.{Overview}

module _ {V : Type 0} (by : Ghosts V) (Reason : Type 0) (request : TimedRequest) (context : SignerContext) (old new : UpdatableZone V) where
  -- an update whose answer is no ServFail of the journal was made
  pub made_of : (answer : UpdateResult) (changed : Bool) → AnswersDurably Reason by old request (answer, context) new → answer ≡ Ok changed → AnswersUpdate true by old request answer context new
  made_of answer changed (inl made) is = made
  made_of answer changed (inr unwritten) is = absurd (let no : ◌≡◌ {A = UpdateResult} (Err (Code 2)) (Ok changed) = sym unwritten.0 ∙ is in cc)

  -- the zone is as before, unless the answer is that it has changed
  pub unchanged : (answer : UpdateResult) → AnswersDurably Reason by old request (answer, context) new → OnErr answer (new ≡ old) → answer ≢ Ok true → new ≡ old
  unchanged answer (inr unwritten) kept other = unwritten.1
  unchanged (Ok true) (inl made) kept other = absurd (other refl)
  unchanged (Ok false) (inl made) kept other = made.3 refl
  unchanged (Err fault) (inl made) kept other = kept

-- ---- the overview

module _ {V : Type 0} (by : Ghosts V) (Reason : Type 0) (request : ReceivedRequest) (now : ℕ) (answer : UpdateResult) (context : SignerContext) (old new : UpdatableZone V)
    (a : AnswersDurably Reason by old (request, now) (answer, context) new) (before : Overview) (seen : IsOverview old.zone before) where
  -- after an update that changed the zone; its sets were read before
  pub follows_on : (zone : UpdatableZone V) (read : MemoryZone) (after : Overview) → answer ≡ Ok true → zone ≡ new → read ≡ old.zone → IsZone read.sets → AreSetsInOrder read.sets
      → Follows by request zone before after → IsOverview new.zone after
  follows_on zone read after is same was sets ordered follows =
      subst (λ (z : UpdatableZone V). IsOverview z.zone after) same
      (follows old now answer context (subst (λ (m : MemoryZone). IsZone m.sets) was sets) (subst (λ (m : MemoryZone). AreSetsInOrder m.sets) was ordered)
      (subst (λ (z : UpdatableZone V). AnswersUpdate true by old (request, now) answer context z) (sym same) (made_of by Reason (request, now) context old new answer true a is)) seen)

  -- after any other
  pub stays : OnErr answer (new ≡ old) → answer ≢ Ok true → IsOverview new.zone before
  stays kept other = subst (λ (z : UpdatableZone V). IsOverview z.zone before) (sym (unchanged by Reason (request, now) context old new answer a kept other)) seen

-- ---- the history

by_refusal : (code : Option ℕ) (outcome : Outcome) (records : List (Record RData)) → IsOutcome (unless_refused code outcome) records true → IsOutcome outcome records true
by_refusal None outcome records is = is
by_refusal (Some code) outcome records is = absurd is

module _ {V : Type 0} (by : Ghosts V) (request : ReceivedRequest) (now : ℕ) (context : SignerContext) (old new : UpdatableZone V) where
  -- a zone that an update has changed was changed by its update section
  changed_by : AnswersUpdate true by old (request, now) (Ok true) context new → IsChangedBy (update_of request.message).updates old.zone new.zone
  changed_by a =
      let o : DomainName = old.zone.origin in
      let z : List (Record RData) = zone_records old.zone.sets in
      let records : List (Record RData) = zone_records new.zone.sets in
      let message : UpdateMessage = update_of request.message in
      let last : Outcome = applied true o z message.updates true in
      let scan : Option ℕ = prescan_refusal o message.updates in
      let required : Option ℕ = prerequisite_section_refusal o z message.prerequisites in (
        by_refusal scan last records
            (by_refusal required (unless_refused scan last) records
            (by_refusal (update_permission by old.verifier old.allow_update request now).refusal (unless_refused required (unless_refused scan last)) records a.0.0)),
        a.0.1,
      )

  -- after an update that changed the zone; what was there was read before
  pub changed_history : (Reason : Type 0) (answer : UpdateResult) (zone read : MemoryZone) (updates : List (Record RData)) (before : Result (Option Before) AllocError) (history after : List Difference)
      → AnswersDurably Reason by old (request, now) (answer, context) new → answer ≡ Ok true → zone ≡ new.zone → read ≡ old.zone → updates ≡ (update_of request.message).updates
      → IsKnown read updates before → Records before zone history after → IsHistory answer old.zone new.zone history after
  changed_history Reason answer zone read updates before history after a is same was spoken known records =
      let made : AnswersUpdate true by old (request, now) (Ok true) context new =
      subst (λ (r : UpdateResult). AnswersUpdate true by old (request, now) r context new) is (made_of by Reason (request, now) context old new answer true a is) in
      let told : IsKnown old.zone (update_of request.message).updates before =
      subst (λ (m : MemoryZone). IsKnown m (update_of request.message).updates before) was (subst (λ (rs : List (Record RData)). IsKnown read rs before) spoken known) in
      subst (λ (r : UpdateResult). IsHistory r old.zone new.zone history after) (sym is)
      (subst (λ (z : MemoryZone). IsRecorded old.zone z history after) same
      (records old.zone (update_of request.message).updates told (subst (λ (z : MemoryZone). IsChangedBy (update_of request.message).updates old.zone z) (sym same) (changed_by made))))

-- after any other
pub same_history : (answer : UpdateResult) (old new : MemoryZone) (history : List Difference) → answer ≢ Ok true → IsHistory answer old new history history
same_history (Ok true) old new history other = absurd (other refl)
same_history (Ok false) old new history other = refl
same_history (Err fault) old new history other = refl

-- ---- the zone as a whole

pub is_made : {V : Type 0} (by : Ghosts V) (request : TimedRequest) (answer : UpdateResult) (context : SignerContext) (old new : KeptZone V) (policy : List Rule) (history after : List Difference)
    → AnswersDurably (IsTrue old.is_journalled × StaysUnwritten by old.updatable request new.takes_entries) by old.updatable request (answer, context) new.updatable
    → new ≡ record old { updatable = new.updatable; takes_entries = new.takes_entries }
    → IsHistory answer old.updatable.zone new.updatable.zone history after
    → IsMade by (zone_state old history policy) request answer context (zone_state new after policy)
is_made {V} by request answer context old new policy history after a others recorded =
    record { answers = whatever_journal a; recorded = recorded; others = ap (λ (k : KeptZone V). zone_state k after policy) others }
  where
    why : StaysUnwritten by old.updatable request new.takes_entries → MayStayUnwritten by old.updatable request
    why (inl unread) = inl unread
    why (inr refused) = inr refused.0

    whatever_journal : AnswersDurably (IsTrue old.is_journalled × StaysUnwritten by old.updatable request new.takes_entries) by old.updatable request (answer, context) new.updatable
        → AnswersDurably (IsTrue old.is_journalled × MayStayUnwritten by old.updatable request) by old.updatable request (answer, context) new.updatable
    whatever_journal (inl made) = inl made
    whatever_journal (inr unwritten) = inr (unwritten.0, unwritten.1, (unwritten.2.0, why unwritten.2.1))

-- an update that was refused left the zone
pub same_state : {V : Type 0} (answer : UpdateResult) (old new : KeptZone V) (policy : List Rule) (history : List Difference)
    → new ≡ record old { updatable = new.updatable; takes_entries = new.takes_entries } → OnErr answer (new.updatable ≡ old.updatable)
    → OnErr answer (zone_state new history policy ≡ zone_state old history policy)
same_state (Ok changed) old new policy history others kept = tt
same_state {V} (Err fault) old new policy history others kept =
    ap (λ (k : KeptZone V). zone_state k history policy) others ∙ ap (λ (u : UpdatableZone V). zone_state (record old { updatable = u }) history policy) kept

-- an update that changed the zone was not refused
pub not_refused : (P : Type 0) (answer : UpdateResult) → answer ≡ Ok true → OnErr answer P
not_refused P answer is = subst (λ (r : UpdateResult). OnErr r P) (sym is) tt
