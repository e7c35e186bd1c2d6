-- Dynamic updates (RFC 2136): which handler takes one, and which reply it gets.
use Rattle.std.specs.Prelude.{◌≡◌, ◌==◌, ◌<◌, ◌^◌, ℕ, Bool, cond, List, [], ◌∷◌, Option, Some, None, Result, Ok, Err, OnErr}
use Rattle.std.specs.List.{Any}
use Rattle.wire_names.specs.rr.domain.DomainName.{DomainName}
use Rattle.wire_messages.specs.Numbers.{code_form_err, code_no_error, code_not_auth, code_not_imp, code_serv_fail, opcode_update, type_soa}
use Rattle.wire_messages.specs.op.EdnsFields.{EdnsFields}
use Rattle.wire_messages.specs.op.Metadata.{bare_metadata}
use Rattle.wire_names.specs.rr.domain.NameOrder.{SameName, lower_name}
use Rattle.wire_messages.specs.serialize.writing.Reply.{Reply}
use Rattle.wire_messages.specs.declared.op.header.MessageType.TheVariants.{Response}
use Rattle.wire_messages.specs.declared.op.query.Query.{Query}
use Rattle.hickory_base.specs.requests.Questions.{one_query}
use Rattle.hickory_base.specs.requests.Requests.{ReceivedRequest, TimedRequest}
use Rattle.hickory_base.specs.declared.errors.CatalogError.{CatalogError}
use Rattle.hickory_base.specs.declared.errors.CatalogError.TheVariants as catalog_error
use Rattle.hickory_base.specs.declared.errors.LookupError.{LookupError}
use Rattle.hickory_base.specs.declared.errors.UpdateFault.TheVariants.{Code, Memory}
use Rattle.hickory_base.specs.declared.zone_store.handler.ZoneHandler.{Ghosts}
use Rattle.hickory_base.specs.declared.zone_store.handler.ZoneType.{ZoneType}
use Rattle.hickory_base.specs.declared.zone_store.handler.ZoneType.TheVariants.{Primary, Secondary, External}
use Rattle.hickory_base.specs.zone_store.Lookups.{SignerContext, UpdateResult}
use Rattle.hickory_catalog.specs.replies.Replies.{Contents, bare_contents, error_reply}
use Rattle.hickory_catalog.specs.requests.Server.{Server}
use Rattle.hickory_catalog.specs.replies.Signing.{SignedReply}
use Rattle.hickory_catalog.specs.zones.Zones.{ChangesAt, HasZone, ZoneChains}
use Rattle.hickory_catalog.specs.declared.updates.ZoneUpdate.{ZoneUpdate}
use Rattle.hickory_catalog.specs.declared.updates.ZoneUpdate.TheVariants.{NoZone, NoHandler, Answered}

-- The name of the zone that is to be updated: that of the one question, which is of type SOA (RFC 2136 section 2.3).
-- Its class is not looked at.
abbrev pub zone_named : Result Query LookupError → Option DomainName
zone_named (Ok query) = cond (query.query_type == type_soa) (Some (lower_name query.name)) None
zone_named (Err e) = None

-- that name, in a request
abbrev pub updated_zone : ReceivedRequest → Option DomainName
updated_zone request = zone_named (one_query request.message.queries.queries)

-- what a handler gives for an update: its answer, and what a signer of the reply has to know
abbrev pub UpdateGiven : Type 0
UpdateGiven = UpdateResult × SignerContext

-- What a handler gives for an update, and the handler after it. A primary server takes it, and is as before where it
-- fails. One with a copy of the zone forwards none (RFC 2136 section 6 leaves it free): NotImp. One that asks elsewhere
-- has no authority: NotAuth (section 3.1.2).
abbrev pub HandlerUpdated : {H : Type 0} → Ghosts H → ZoneType → TimedRequest → H → UpdateGiven → H → Type 0
HandlerUpdated handler Primary (request, now) h (answer, context) after = handler.update_gives h request now answer context after × OnErr answer (after ≡ h)
HandlerUpdated handler Secondary request h (answer, context) after = (answer ≡ Err (Code code_not_imp)) × (context ≡ None) × (after ≡ h)
HandlerUpdated handler External request h (answer, context) after = (answer ≡ Err (Code code_not_auth)) × (context ≡ None) × (after ≡ h)

-- The first handler of a chain answers alone. The others are as before, in their order.
pub record FirstUpdated {H : Type 0} (handler : Ghosts H) (request : TimedRequest) (chain : List H) (given : UpdateGiven) (chain' : List H) : Type 0 where
  pub first : H
  pub after : H
  pub others : List H
  pub answers : HandlerUpdated handler (handler.zone_type_of first) request first given after
  pub before : chain ≡ first ∷ others
  pub behind : chain' ≡ after ∷ others

-- The first handler of the zone of just this apex answers. All other zones are as before.
pub record ApexUpdated {H : Type 0} (handler : Ghosts H) (request : TimedRequest) (name : DomainName) (zones : ZoneChains H) (given : UpdateGiven) (zones' : ZoneChains H) : Type 0 where
  pub chain : List H
  pub chain' : List H
  pub first : FirstUpdated handler request chain given chain'
  pub changed : ChangesAt zones name (Some chain) (Some chain') zones'

-- The zone of just this apex has no handler.
abbrev pub HasNoHandler : {H : Type 0} → ZoneChains H → DomainName → Type 0
HasNoHandler zones name = Any (λ zone. SameName zone.0 name × (zone.1 ≡ [])) zones

-- the response code of an answer, but for want of memory: NoError, or why it is refused (RFC 2136 section 3.8)
abbrev pub update_code : UpdateResult → Option ℕ
update_code (Ok changed) = Some code_no_error
update_code (Err (Code code)) = Some code
update_code (Err Memory) = None

-- the fault that tells of memory that was refused after a handler gave this answer
abbrev pub fault_after : UpdateResult → CatalogError
fault_after (Ok changed) = catalog_error.MemoryAfterUpdate
fault_after (Err e) = catalog_error.Memory

-- What the reply says: the identifier and the opcode of the request, the code, no flag but QR, and no records (RFC 2136
-- sections 2.2 and 3.8).
abbrev pub update_contents : ℕ → ℕ → Contents
update_contents id code = bare_contents (record (bare_metadata id Response opcode_update) { response_code = code })

-- The reply to an update, with this EDNS, at this moment, and the zones after it.
pub data UpdateReply {H : Type 0} (server : Server H) (request : ReceivedRequest) (edns : Option EdnsFields) (now : ℕ) (reply : Reply) (zones : ZoneChains H) : Type 0 where
  -- No zone is named: FormErr (RFC 2136 section 3.1.1).
  unnamed : updated_zone request ≡ None
      → reply ≡ error_reply request.message edns code_form_err → zones ≡ server.zones → UpdateReply server request edns now reply zones
  -- The name is no apex of a zone: NotAuth (section 3.1.2).
  no_apex : {name : DomainName} → updated_zone request ≡ Some name → ¬ (HasZone server.zones name)
      → reply ≡ error_reply request.message edns code_not_auth → zones ≡ server.zones → UpdateReply server request edns now reply zones
  -- Nobody answers for the zone: ServFail.
  no_handler : {name : DomainName} → updated_zone request ≡ Some name → HasNoHandler server.zones name
      → reply ≡ error_reply request.message edns code_serv_fail → zones ≡ server.zones → UpdateReply server request edns now reply zones
  -- The first handler of the zone answers, with a code of twelve bits (RFC 6891 section 6.1.3).
  answered : {name : DomainName} {answer : UpdateResult} {context : SignerContext} {code : ℕ} → updated_zone request ≡ Some name
      → ApexUpdated server.handler (request, now) name server.zones (answer, context) zones
      → update_code answer ≡ Some code → code < 2 ^ 12
      → SignedReply server.signer request.message edns (update_contents request.message.metadata.id code) context reply
      → UpdateReply server request edns now reply zones

-- What an update comes to: the replies that are sent, which is one, and the zones after it.
pub record UpdateAnswered {H : Type 0} (server : Server H) (request : ReceivedRequest) (edns : Option EdnsFields) (now : ℕ) (replies : List Reply) (zones : ZoneChains H) : Type 0 where
  pub reply : Reply
  pub is_reply : UpdateReply server request edns now reply zones
  pub only : replies ≡ reply ∷ []

-- The zones after an update where memory was refused and no reply was sent: they are as before, or the first handler of
-- the zone had taken the update, which then stands.
abbrev pub UpdateLeaves : {H : Type 0} → Server H → ReceivedRequest → ℕ → CatalogError → ZoneChains H → Type 0
UpdateLeaves server request now catalog_error.Memory zones = zones ≡ server.zones
UpdateLeaves server request now catalog_error.MemoryAfterUpdate zones = (name : DomainName) × (updated_zone request ≡ Some name)
    × (changed : Bool) × (context : SignerContext)
    × ApexUpdated server.handler (request, now) name server.zones (Ok changed, context) zones

-- What an update of the zone of a name leaves, as the program tells it.
abbrev pub ZoneUpdated : {H : Type 0} → Ghosts H → TimedRequest → DomainName → ZoneChains H → ZoneUpdate → ZoneChains H → Type 0
ZoneUpdated handler request name zones NoZone after = (¬ (HasZone zones name)) × (after ≡ zones)
ZoneUpdated handler request name zones NoHandler after = HasNoHandler zones name × (after ≡ zones)
ZoneUpdated handler request name zones (Answered answer context) after = ApexUpdated handler request name zones (answer, context) after

-- What an update of a chain leaves, as the program tells it.
abbrev pub ChainUpdated : {H : Type 0} → Ghosts H → TimedRequest → List H → Option UpdateGiven → List H → Type 0
ChainUpdated handler request chain None after = (chain ≡ []) × (after ≡ chain)
ChainUpdated handler request chain (Some given) after = FirstUpdated handler request chain given after
