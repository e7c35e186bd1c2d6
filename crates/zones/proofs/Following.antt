-- What a zone keeps leads from versions that it has had to the zone as it is.
use Rattle.std.proofs.Common.{◌≡◌, inl, inr, ap, refl, true, false, Ok, Err}
use Rattle.std.specs.Prelude.{IsTrue}
use Rattle.hickory_base.specs.requests.Requests.{TimedRequest}
use Rattle.hickory_base.specs.zone_store.Lookups.{SignerContext, UpdateResult}
use Rattle.hickory_store.specs.updates.UpdatableZone.{UpdatableZone}
use Rattle.hickory_store.specs.declared.updates.verifier.Verifier.{Ghosts}
use Rattle.durable_updates.specs.DurableUpdates.{AnswersDurably, MayStayUnwritten}
use Rattle.zone_differences.specs.Histories.{IsKeptUp}
use Rattle.zone_differences.specs.Versions.{RecordedLead}
use Rattle.zones.specs.Versions.{DifferencesLead}
use Rattle.zones.specs.Versions.Serves.{answered, begun}
use Rattle.zones.specs.ZoneStates.{ZoneState}
use Rattle.zones.specs.ZoneUpdates.{IsMade, Updates}
use Rattle.zones.specs.ZoneUpdates.Updates.{granted, not_granted}

module _ {V : Type 0} (by : Ghosts V) where
  -- an update that changed nothing
  unchanged : (Reason : Type 0) (request : TimedRequest) (answer : UpdateResult) (context : SignerContext) (old new : UpdatableZone V)
      → AnswersDurably Reason by old request (answer, context) new → (answer ≡ Ok true → ⊥) → new.zone ≡ old.zone
  unchanged Reason request answer context old new (inr unwritten) other = ap (λ (z : UpdatableZone V). z.zone) unwritten.1
  unchanged Reason request (Ok true) context old new (inl a) other = absurd (other refl)
  unchanged Reason request (Ok false) context old new (inl a) other = ap (λ (u : UpdatableZone V). u.zone) (a.3 refl)
  unchanged Reason request (Err fault) context old new (inl a) other = a.0.1

  made_up : (request : TimedRequest) (answer : UpdateResult) (context : SignerContext) (old new : ZoneState V)
      → IsMade by old request answer context new → IsKeptUp old.updatable.zone new.updatable.zone old.history new.history
  made_up request (Ok true) context old new made = inr made.recorded
  made_up request (Ok false) context old new made = inl (unchanged (IsTrue old.is_journalled × MayStayUnwritten by old.updatable request) request (Ok false) context old.updatable new.updatable made.answers (λ e. cc), made.recorded)
  made_up request (Err fault) context old new made = inl (unchanged (IsTrue old.is_journalled × MayStayUnwritten by old.updatable request) request (Err fault) context old.updatable new.updatable made.answers (λ e. cc), made.recorded)

  kept_up : (request : TimedRequest) (answer : UpdateResult) (context : SignerContext) (old new : ZoneState V)
      → Updates by old request answer context new → IsKeptUp old.updatable.zone new.updatable.zone old.history new.history
  kept_up request answer context old new (granted is made) = made_up request answer context old new made
  kept_up request answer context old new (not_granted is refused same) = inl (ap (λ (z : ZoneState V). z.updatable.zone) same, ap (λ (z : ZoneState V). z.history) same)

  pub clients_follow : RecordedLead → DifferencesLead by
  clients_follow lead first zone versions (begun led) = led
  clients_follow lead first zone versions (answered {versions = earlier} {old = old} request answer context so_far u) =
      lead earlier old.updatable.zone zone.updatable.zone old.history zone.history (clients_follow lead first old earlier so_far) (kept_up request answer context old zone u)
