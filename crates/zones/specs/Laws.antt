-- Laws of zones that take updates by rules, with a journal or only in memory.
use Rattle.std.specs.Prelude.{◌≡◌, ◌≢◌, ℕ, false, OnOk, true}
use Rattle.wire_names.specs.rr.domain.DomainName.{DomainName}
use Rattle.hickory_base.specs.requests.Requests.{ReceivedRequest, TimedRequest}
use Rattle.hickory_base.specs.zone_store.Lookups.{Flow, SignerContext, UpdateResult}
use Rattle.hickory_base.specs.zone_store.ZoneAnswers.{MemoryZone}
use Rattle.hickory_store.specs.updates.UpdateAnswers.{AnswersUpdate}
use Rattle.hickory_store.specs.declared.updates.verifier.Verifier.{Ghosts}
use Rattle.durable_updates.specs.DurableUpdates.{IsAccepted}
use Rattle.zone_replies.specs.Handled as authoritative
use Rattle.zone_answers.specs.Zones.{AreOwners}
use Rattle.zones.specs.ZoneQueries.{LookedUp, Searched}
use Rattle.zones.specs.ZoneStates.{ZoneState}
use Rattle.zones.specs.ZoneUpdates.{IsGrantedTo, Updates}

-- If each owner name may own records of the zone, a search and a lookup are answered as of a zone without updates.
abbrev pub OwnedZonesReply : Type 0
OwnedZonesReply =
    (zone : MemoryZone) (request : ReceivedRequest) (answer : Flow) → AreOwners zone.origin zone.sets → Searched zone request answer → authoritative.Searched zone request answer

abbrev pub OwnedZonesAreLookedUp : Type 0
OwnedZonesAreLookedUp =
    (zone : MemoryZone) (name : DomainName) (t : ℕ) (answer : Flow) → AreOwners zone.origin zone.sets → LookedUp zone name t answer → authoritative.LookedUp zone name t answer

module _ {V : Type 0} (by : Ghosts V) where
  -- What holds of each update that a zone answers.
  abbrev pub OfUpdates : (TimedRequest → UpdateResult → SignerContext → ZoneState V → ZoneState V → Type 0) → Type 0
  OfUpdates Holds =
      (request : TimedRequest) (answer : UpdateResult) (context : SignerContext) (old new : ZoneState V)
      → Updates by old request answer context new → Holds request answer context old new

  -- If an update changes anything, the rules grant its update section to the key that signed it.
  abbrev pub ChangesAreGranted : Type 0
  ChangesAreGranted = OfUpdates (λ request answer context old new. new ≢ old → IsGrantedTo old request.0)

  -- No update changes the rules, whether there is a journal, or whether the zone holds updates.
  abbrev pub RulesStay : Type 0
  RulesStay = OfUpdates (λ request answer context old new.
      (new.policy ≡ old.policy) × (new.is_journalled ≡ old.is_journalled) × (new.holds ≡ old.holds))

  -- An update that is acknowledged the rules grant, and a zone that is only in memory makes it so (RFC 2136 section 3).
  abbrev pub AcknowledgedAreMade : Type 0
  AcknowledgedAreMade = OfUpdates (λ request answer context old new.
      OnOk answer (IsGrantedTo old request.0 × AnswersUpdate true by old.updatable request answer context new.updatable))

  -- Without a journal each update that the rules grant is answered so.
  abbrev pub UpdatesOfMemory : Type 0
  UpdatesOfMemory = OfUpdates (λ request answer context old new.
      old.is_journalled ≡ false → IsGrantedTo old request.0 → AnswersUpdate true by old.updatable request answer context new.updatable)

  -- With a journal each update that the rules grant is answered so too, unless it is one that is to be made: it is
  -- permitted, its prerequisites hold, and its records pass the prescan (RFC 2136 sections 3.2, 3.3 and 3.4.1).
  abbrev pub RefusalsOfMemory : Type 0
  RefusalsOfMemory = OfUpdates (λ request answer context old new.
      request.0.was_read ≡ true → ¬ (IsAccepted by old.updatable request) → IsGrantedTo old request.0 → AnswersUpdate true by old.updatable request answer context new.updatable)
