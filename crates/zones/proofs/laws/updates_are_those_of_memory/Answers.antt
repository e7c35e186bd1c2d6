-- By how it was answered; an update that the rules do not grant is not acknowledged.
use Rattle.std.proofs.Common.{◌≡◌, ◌∙◌, inl, inr, subst, sym, false, true, Ok, Err, OnOk}
use Rattle.std.specs.Prelude.{IsTrue}
use Rattle.wire_names.specs.rr.domain.DomainName.{DomainName}
use Rattle.hickory_base.specs.zone_store.Lookups.{SignerContext, UpdateResult}
use Rattle.hickory_base.specs.requests.Requests.{ReceivedRequest, TimedRequest}
use Rattle.hickory_base.specs.declared.errors.UpdateFault.TheVariants.{Code, Memory}
use Rattle.hickory_store.specs.updates.Permission.{Permission, update_permission}
use Rattle.hickory_store.specs.updates.UpdatableZone.{UpdatableZone}
use Rattle.hickory_store.specs.updates.UpdateAnswers.{AnswersUpdate}
use Rattle.hickory_store.specs.declared.updates.verifier.Verifier.{Ghosts}
use Rattle.durable_updates.specs.DurableUpdates.{AnswersDurably, MayStayUnwritten}
use Rattle.zones.specs.Laws.{AcknowledgedAreMade, RefusalsOfMemory, UpdatesOfMemory}
use Rattle.zones.specs.ZoneUpdates.{IsRefusedByRules, ungranted_code}
use Rattle.zones.specs.ZoneUpdates.Updates.{granted, not_granted}
use Rattle.zones.proofs.laws.updates_are_those_of_memory.Goals as goal

refused : (P : Type 0) (origin : DomainName) (request : ReceivedRequest) (permission : Permission) (answer : UpdateResult) (context : SignerContext)
    → IsRefusedByRules origin request permission answer context → OnOk answer P
refused P origin request permission (Ok changed) context (inl is) = absurd (let no : ◌≡◌ {A = UpdateResult} (Ok changed) (Err (Code (ungranted_code origin request permission))) = is.0 in cc)
refused P origin request permission (Ok changed) context (inr is) = absurd (let no : ◌≡◌ {A = UpdateResult} (Ok changed) (Err Memory) = is.0 in cc)
refused P origin request permission (Err fault) context is = tt

module _ {V : Type 0} (by : Ghosts V) where
  made_of : (Q Reason : Type 0) (request : TimedRequest) (answer : UpdateResult) (context : SignerContext) (old new : UpdatableZone V)
      → Q → AnswersDurably Reason by old request (answer, context) new → OnOk answer (Q × AnswersUpdate true by old request answer context new)
  made_of Q Reason request (Ok changed) context old new is (inl made) = (is, made)
  made_of Q Reason request (Ok changed) context old new is (inr unwritten) = absurd (let no : ◌≡◌ {A = UpdateResult} (Ok changed) (Err (Code 2)) = unwritten.0 in cc)
  made_of Q Reason request (Err fault) context old new is a = tt

  acknowledged : AcknowledgedAreMade by
  acknowledged request answer context old new (granted is made) = made_of _ (IsTrue old.is_journalled × MayStayUnwritten by old.updatable request) request answer context old.updatable new.updatable is made.answers
  acknowledged request answer context old new (not_granted is not_made same) =
      refused _ old.updatable.zone.origin request.0 (update_permission by old.updatable.verifier old.updatable.allow_update request.0 request.1) answer context not_made

  of_memory : UpdatesOfMemory by
  of_memory request answer context old new (granted is made) none rules = from made.answers
    where
      from : AnswersDurably (IsTrue old.is_journalled × MayStayUnwritten by old.updatable request) by old.updatable request (answer, context) new.updatable → AnswersUpdate true by old.updatable request answer context new.updatable
      from (inl done) = done
      from (inr unwritten) = absurd (let no : IsTrue false = subst IsTrue none unwritten.2.0 in cc)
  of_memory request answer context old new (not_granted is not_made same) none rules = absurd (is rules)

  of_refused : RefusalsOfMemory by
  of_refused request answer context old new (granted is made) read refused rules = from made.answers
    where
      why : MayStayUnwritten by old.updatable request → ⊥
      why (inl unread) = let no : true ≡ false = sym read ∙ unread in cc
      why (inr accepted) = refused accepted

      from : AnswersDurably (IsTrue old.is_journalled × MayStayUnwritten by old.updatable request) by old.updatable request (answer, context) new.updatable → AnswersUpdate true by old.updatable request answer context new.updatable
      from (inl done) = done
      from (inr unwritten) = absurd (why unwritten.2.1)
  of_refused request answer context old new (not_granted is not_made same) read refused rules = absurd (is rules)

pub returns-clause-acknowledged : goal.returns-clause-acknowledged
returns-clause-acknowledged g c = acknowledged g.V.Verifier

pub returns-clause-without_journal : goal.returns-clause-without_journal
returns-clause-without_journal g c = of_memory g.V.Verifier

pub returns-clause-refused : goal.returns-clause-refused
returns-clause-refused g c = of_refused g.V.Verifier
