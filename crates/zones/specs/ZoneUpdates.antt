-- What a zone answers to an update (RFC 2136).
use Rattle.std.specs.Prelude.{◌≡◌, ◌⊎◌, ℕ, true, false, IsTrue, unwrap_or, List, Option, None, Some, Ok, Err}
use Rattle.wire_names.specs.rr.domain.DomainName.{DomainName}
use Rattle.wire_messages.specs.Numbers.{code_refused}
use Rattle.wire_messages.specs.declared.rr.rdata.RData.{RData}
use Rattle.wire_messages.specs.declared.rr.record.Record.{Record}
use Rattle.wire_messages.specs.declared.rr.tsig.TSIG.{TSIG}
use Rattle.hickory_base.specs.requests.Requests.{ReceivedRequest, TimedRequest}
use Rattle.hickory_base.specs.zone_store.Lookups.{SignerContext, UpdateResult}
use Rattle.hickory_base.specs.zone_store.ZoneAnswers.{MemoryZone}
use Rattle.hickory_base.specs.declared.errors.UpdateFault.TheVariants.{Code, Memory}
use Rattle.hickory_store.specs.updates.Permission.{Permission, update_permission}
use Rattle.hickory_store.specs.updates.Prescan.{prescan_refusal}
use Rattle.hickory_store.specs.declared.updates.verifier.Verifier.{Ghosts}
use Rattle.durable_updates.specs.DurableUpdates.{AnswersDurably, MayStayUnwritten}
use Rattle.update_policy.specs.Grants.{AreGranted}
use Rattle.update_policy.specs.declared.policy.Rule.{Rule}
use Rattle.zone_differences.specs.Histories.{IsRecorded}
use Rattle.zone_differences.specs.declared.difference.Difference.{Difference}
use Rattle.zones.specs.ZoneStates.{ZoneState}

-- The rules grant each record of an update section to the key of this signature. Without a signature they grant none.
abbrev pub IsGrantedUnder : List Rule → DomainName → Option (Record TSIG) → List (Record RData) → Type 0
IsGrantedUnder rules zone None updates = ⊥
IsGrantedUnder rules zone (Some signature) updates = AreGranted rules signature.name zone updates

-- The rules of the zone grant the update section of a request, which is where other messages have the authority section
-- (RFC 2136 section 2.5), to the key that signed it.
abbrev pub IsGrantedTo : {V : Type 0} → ZoneState V → ReceivedRequest → Type 0
IsGrantedTo zone request = IsGrantedUnder zone.policy zone.updatable.zone.origin request.message.signature request.message.authorities

-- The code of an update that the rules do not grant to this zone: that of its signature, if it is not good (RFC 8945
-- section 5.2); else that of the first record that no zone takes, as one whose owner name is outside of the zone (RFC
-- 2136 section 3.4.1.3); else Refused (section 3.3).
abbrev pub ungranted_code : DomainName → ReceivedRequest → Permission → ℕ
ungranted_code origin request permission =
    unwrap_or permission.refusal (unwrap_or (prescan_refusal origin request.message.authorities) code_refused)

-- The answer to an update that the rules do not grant: this code, or memory was refused.
abbrev pub IsRefusedByRules : DomainName → ReceivedRequest → Permission → UpdateResult → SignerContext → Type 0
IsRefusedByRules origin request permission answer context =
    ((answer ≡ Err (Code (ungranted_code origin request permission))) × (context ≡ permission.context)) ⊎ ((answer ≡ Err Memory) × (context ≡ None))

-- If an update changed the zone, the difference is recorded, of which a client may ask (RFC 1995). If it did not, what
-- led to the zone stays.
abbrev pub IsHistory : UpdateResult → MemoryZone → MemoryZone → List Difference → List Difference → Type 0
IsHistory (Ok true) old new before after = IsRecorded old new before after
IsHistory (Ok false) old new before after = after ≡ before
IsHistory (Err fault) old new before after = after ≡ before

-- An update is judged and made as RFC 2136 sections 3.2 to 3.6 say. If the zone has a journal, it may be that an update
-- that is to be made could not be written: ServFail, and the zone is as before. The difference is recorded, and nothing
-- else of the zone changes.
pub record IsMade {V : Type 0} (by : Ghosts V) (old : ZoneState V) (request : TimedRequest) (answer : UpdateResult) (context : SignerContext) (new : ZoneState V) : Type 0 where
  pub answers : AnswersDurably (IsTrue old.is_journalled × MayStayUnwritten by old.updatable request) by old.updatable request (answer, context) new.updatable
  pub recorded : IsHistory answer old.updatable.zone new.updatable.zone old.history new.history
  pub others : new ≡ record old { updatable = new.updatable; history = new.history }

-- The answer to an update, at its moment, and the zone after it. An update that the rules grant is made, if its
-- signature is good. Any other is refused, and nothing changes.
pub data Updates {V : Type 0} (by : Ghosts V) (old : ZoneState V) (request : TimedRequest) (answer : UpdateResult) (context : SignerContext) (new : ZoneState V) : Type 0 where
  granted : IsGrantedTo old request.0 → IsMade by old request answer context new → Updates by old request answer context new
  not_granted : ¬ (IsGrantedTo old request.0)
      → IsRefusedByRules old.updatable.zone.origin request.0 (update_permission by old.updatable.verifier old.updatable.allow_update request.0 request.1) answer context → new ≡ old
      → Updates by old request answer context new
