-- What a server replies to a query from its zones, and how messages change them.
use Rattle.std.specs.Prelude.{◌≡◌, ◌≤◌, ◌∷◌, [], ℕ, All, Bool, List, Ok, Option, None, Some, length}
use Rattle.either.specs.declared.Either.TheVariants.{Left, Right}
use Rattle.wire_names.specs.rr.domain.DomainName.{DomainName}
use Rattle.wire_names.specs.rr.domain.NameOrder.{lower_name}
use Rattle.wire_names.specs.declared.error.ProtoError.{ProtoError}
use Rattle.wire_messages.specs.Numbers.{code_refused, code_serv_fail}
use Rattle.wire_messages.specs.declared.op.query.Query.{Query}
use Rattle.hickory_base.specs.requests.RequestReading.{IsFaultOf}
use Rattle.hickory_base.specs.requests.Requests.{ReceivedRequest, TimedRequest}
use Rattle.hickory_base.specs.zone_store.Lookups.{SignerContext}
use Rattle.hickory_base.specs.zone_store.ZoneAnswers.{MemoryZone}
use Rattle.hickory_base.specs.zone_store.ZoneSets.{IsZone}
use Rattle.hickory_base.specs.declared.zone_store.handler.ZoneHandler.{Ghosts}
use Rattle.hickory_catalog.specs.queries.Queries.{whole_contents}
use Rattle.hickory_catalog.specs.replies.Replies.{Contents, error_contents, unsigned_reply}
use Rattle.hickory_catalog.specs.replies.ReplyEdns.{reply_edns}
use Rattle.hickory_catalog.specs.replies.Signing.{Signer}
use Rattle.hickory_catalog.specs.requests.Server.{server_of}
use Rattle.hickory_catalog.specs.zones.Find.{Finds}
use Rattle.hickory_catalog.specs.zones.Zones.{ChangesAt, ZoneChains}
use Rattle.hickory_catalog.specs.declared.catalog.Catalog.{Catalog}
use Rattle.hickory_server.specs.server.Above.{FindsAbove}
use Rattle.hickory_server.specs.server.Ruling.{IsOfServedClass, IsQuery, IsResponse, IsTransfer, MayUse}
use Rattle.hickory_server.specs.server.Sending.{IsSentAs, sending_of}
use Rattle.hickory_server.specs.server.ServedBy.{ServedBy}
use Rattle.hickory_server.specs.server.ServedLaws.{IsFor}
use Rattle.hickory_server.specs.server.Serving.{IsRequestOf, LeavesUnserved}
use Rattle.hickory_server.specs.declared.server.answer.Answer.{Answer}
use Rattle.hickory_server.specs.declared.server.answer.Answer.TheVariants.{Replies}
use Rattle.hickory_server.specs.declared.server.rules.Rules.{Rules}
use Rattle.hickory_server.specs.declared.server.serve.Incoming.{Incoming}
use Rattle.hickory_server.specs.declared.server.serve.ServeError.{ServeError}
use Rattle.hickory_server.specs.zone_handler.ZoneReplies.{SaysTheReply}
use Rattle.zone_answers.specs.Zones.{AreOwners}
use Rattle.hickory_store.specs.blocklist.BlockAnswers.{Blocklist, IsBlockedBy}
use Rattle.hickory_store.specs.declared.updates.verifier.Verifier.{Ghosts as Verifies}
use Rattle.served_zones.specs.ServedZones.{Chain, ServedHandler}
use Rattle.served_zones.specs.TakenUpdates.{Taken, taken_in, taken_without_reply}
use Rattle.tsig.specs.declared.verifier.TsigVerifier.{TsigVerifier}
use Rattle.zones.specs.ZoneQueries.{failure}
use Rattle.zones.specs.ZoneStates.{ZoneState}
use Rattle.zones.specs.ZoneUpdates.{Updates}

-- The handler is a list of blocked names that is so.
abbrev pub IsListThat : (Blocklist → Type 0) → ServedHandler → Type 0
IsListThat IsSo (Left zone) = ⊥
IsListThat IsSo (Right list) = IsSo list.value

-- The chain is a zone, and after it lists of blocked names that are so; or it is empty, since no file of its zone was
-- taken.
abbrev pub IsServedChain : (Blocklist → Type 0) → Chain → Type 0
IsServedChain IsSo [] = Unit {0}
IsServedChain IsSo (Left zone ∷ lists) = All (IsListThat IsSo) lists
IsServedChain IsSo (Right list ∷ others) = ⊥

abbrev pub AreServedChains : (Blocklist → Type 0) → ZoneChains ServedHandler → Type 0
AreServedChains IsSo zones = All (λ served. IsServedChain IsSo served.1) zones

-- The list does not block the name of the question.
abbrev pub LetsPass : Query → Blocklist → Type 0
LetsPass question list = ¬ (IsBlockedBy list (lower_name question.name))

-- The message is a query of this one question, of a class that is served and for no transfer, from an address that may
-- use the server.
pub record IsPlainQuery (rules : Rules) (message : Incoming) (question : Query) : Type 0 where
  pub may_use : MayUse rules message.src
  pub whole : 12 ≤ length message.bytes.items
  pub no_response : ¬ (IsResponse message.bytes.items)
  pub request : ReceivedRequest
  pub is_request : IsRequestOf message request
  pub is_query : IsQuery request.message question
  pub class : IsOfServedClass question
  pub no_transfer : ¬ (IsTransfer question)

-- So its bytes begin with a message (RFC 1035 section 4.1).
abbrev pub PlainQueriesAreRead : Type 0
PlainQueriesAreRead = (rules : Rules) (message : Incoming) (question : Query) (e : ProtoError) → IsPlainQuery rules message question → ¬ (IsFaultOf message.bytes.items e)

-- What a zone says to a question: what it replies (RFC 1034 section 4.3.2). If an owner name is outside of the zone, it
-- says that the server failed.
pub data IsSaidByZone (zone : MemoryZone) (request : ReceivedRequest) (question : Query) (contents : Contents) : Type 0 where
  by_reply : AreOwners zone.origin zone.sets → SaysTheReply zone request question contents → IsSaidByZone zone request question contents
  by_failure : IsZone zone.sets → ¬ (AreOwners zone.origin zone.sets) → contents ≡ whole_contents request.message.metadata failure → IsSaidByZone zone request question contents

-- What the reply to a question says: REFUSED, if no zone answers for the name (RFC 1035 section 4.1.1); or what the
-- zone says that the request is for: the nearest to the name (RFC 1034 section 4.3.2, step 2), or for the DS records of
-- an apex the nearest above it (RFC 4035 section 3.1.4.1). If no file of that zone was taken, it is SERVFAIL.
pub data IsSaidBy (zones : ZoneChains ServedHandler) (request : ReceivedRequest) (question : Query) (contents : Contents) : Type 0 where
  by_none : FindsAbove zones request.message None → Finds zones (lower_name question.name) None → contents ≡ error_contents request.message.metadata code_refused → IsSaidBy zones request question contents
  by_zone : {apex : DomainName} {zone : ZoneState TsigVerifier} {lists : Chain} → IsFor zones request (apex, Left zone ∷ lists)
      → IsSaidByZone zone.updatable.zone request question contents → IsSaidBy zones request question contents
  by_empty : {apex : DomainName} → IsFor zones request (apex, []) → contents ≡ error_contents request.message.metadata code_serv_fail → IsSaidBy zones request question contents

-- One message leaves: what is sent of a reply that says this, with the question and, if the request has EDNS, with an OPT
-- record. Over UDP it is within the limits of client and server.
pub record IsSentAlone (rules : Rules) (identifier : Option (List ℕ)) (request : ReceivedRequest) (contents : Contents) (answer : Answer) : Type 0 where
  pub bytes : List ℕ
  pub sent : IsSentAs (sending_of rules request) (unsigned_reply request.message (reply_edns identifier request.message.edns) contents) bytes
  pub answer_is : answer ≡ Replies (bytes ∷ [])

-- A server answers such a query by its zones, if no list blocks its name.
abbrev pub QueriesAreAnswered : {S : Type 0} → Ghosts ServedHandler → (S → Signer) → Type 0
QueriesAreAnswered {S} handler signature_for =
    (rules : Rules) (catalog : Catalog S ServedHandler) (message : Incoming) (question : Query) (answer : Answer) (after : ZoneChains ServedHandler)
    → AreServedChains (LetsPass question) catalog.zones → IsPlainQuery rules message question → ServedBy rules (server_of handler signature_for catalog) message answer after
    → (request : ReceivedRequest) × IsRequestOf message request × (contents : Contents)
    × IsSaidBy catalog.zones request question contents × IsSentAlone rules catalog.nsid request contents answer

-- The message is this update (RFC 2136), at its moment, and the zone of this name answered it `Ok`. All other zones are
-- as before.
pub record MakesUpdate (by : Verifies TsigVerifier) (message : Incoming) (old new : ZoneChains ServedHandler) (name : DomainName) (update : TimedRequest) : Type 0 where
  pub is_request : IsRequestOf message update.0
  pub moment : update.1 ≡ message.now
  pub was : ZoneState TsigVerifier
  pub is : ZoneState TsigVerifier
  pub others : Chain
  pub changed : ChangesAt old name (Some (Left was ∷ others)) (Some (Left is ∷ others)) new
  pub answer : Bool
  pub context : SignerContext
  pub updates : Updates by was update (Ok answer) context is

-- The zones change by the update that was taken, and if none was, they are as before.
abbrev pub AreMade : Verifies TsigVerifier → Incoming → ZoneChains ServedHandler → ZoneChains ServedHandler → Taken → Type 0
AreMade by message old new None = new ≡ old
AreMade by message old new (Some taken) = MakesUpdate by message old new taken.0 taken.1

-- A message changes zones just by the update that was taken, also if memory is refused for its reply.
abbrev pub ZonesAreUpdated : {S : Type 0} → Ghosts ServedHandler → (S → Signer) → Verifies TsigVerifier → Type 0
ZonesAreUpdated {S} handler signature_for by =
    (rules : Rules) (catalog : Catalog S ServedHandler) (message : Incoming) (after : ZoneChains ServedHandler) → AreServedChains (λ list. Unit {0}) catalog.zones
    → ((answer : Answer) (served : ServedBy rules (server_of handler signature_for catalog) message answer after) → AreMade by message catalog.zones after (taken_in served))
    × ((e : ServeError) (left : LeavesUnserved rules.access (server_of handler signature_for catalog) message e after)
    → AreMade by message catalog.zones after (taken_without_reply rules.access (server_of handler signature_for catalog) message after e left))
