-- What holds of whatever becomes of a message by the rules of a server.
use Rattle.std.specs.Prelude.{◌≡◌, ◌+◌, ◌≤◌, ◌<◌, ◌⊎◌, ◌∷◌, [], ℕ, List, None, Some, Contains, length}
use Rattle.std.specs.List.{AllByRecursion, AllZip}
use Rattle.wire_names.specs.rr.domain.DomainName.{DomainName}
use Rattle.wire_messages.specs.op.EdnsFields.{EdnsFields}
use Rattle.wire_messages.specs.declared.op.header.Header.{Header}
use Rattle.wire_messages.specs.serialize.writing.Reply.{Reply}
use Rattle.wire_messages.specs.declared.protocol.Protocol.TheVariants.{Udp}
use Rattle.hickory_wire.specs.serialize.writing.ReplyParts.{ReplyEncoded}
use Rattle.hickory_base.specs.requests.Questions.{payload_limit}
use Rattle.hickory_base.specs.requests.Requests.{ReceivedRequest}
use Rattle.hickory_base.specs.declared.zone_store.handler.ZoneHandler.{Ghosts}
use Rattle.hickory_catalog.specs.requests.Alone.{IsOfZone}
use Rattle.hickory_catalog.specs.requests.Requests.{RequestAnswered}
use Rattle.hickory_catalog.specs.requests.Server.{Server, server_of}
use Rattle.hickory_catalog.specs.replies.Signing.{Signer}
use Rattle.hickory_catalog.specs.zones.Zones.{AreInOrder}
use Rattle.hickory_catalog.specs.declared.catalog.Catalog.{Catalog}
use Rattle.hickory_server.specs.server.Above.{FindsAbove, IsAskedAbove}
use Rattle.hickory_server.specs.server.Fitted.{truncated}
use Rattle.hickory_server.specs.server.FormErrors.{IsFormError}
use Rattle.hickory_server.specs.server.Ruling.{IsResponse, IsRuling, MayUse, udp_limit}
use Rattle.hickory_server.specs.server.Sending.{IsSentAs, sending_of}
use Rattle.hickory_server.specs.server.ServedBy.{ServedBy}
use Rattle.hickory_server.specs.server.Serving.{IsRequestOf}
use Rattle.hickory_server.specs.server.Written.{IsEncoding}
use Rattle.hickory_server.specs.declared.server.answer.Answer.{Answer}
use Rattle.hickory_server.specs.declared.server.answer.Answer.TheVariants.{Denied, Replies}
use Rattle.hickory_server.specs.declared.server.rules.Rules.{Rules}
use Rattle.hickory_server.specs.declared.server.rules.Ruling.TheVariants.{Pass}
use Rattle.hickory_server.specs.declared.server.serve.Incoming.{Incoming}

-- A message is let through: it is no shorter than a header, is itself no response, and as whatever request it is read,
-- it passes and asks no zone above.
pub record IsLetThrough {V : Type 0} (rules : Rules) (zones : List (DomainName × V)) (message : Incoming) : Type 0 where
  pub whole : 12 ≤ length message.bytes.items
  pub no_response : ¬ (IsResponse message.bytes.items)
  pub passes : (request : ReceivedRequest) → IsRequestOf message request → IsRuling rules request Pass
  pub not_above : (request : ReceivedRequest) → IsRequestOf message request → FindsAbove zones request.message None

-- What becomes of a message that is let through, and the zones after it.
pub data LetThroughStep {H : Type 0} (rules : Rules) (server : Server H) (message : Incoming) (answer : Answer) (zones : List (DomainName × List H)) : Type 0 where
  denied : ¬ (MayUse rules message.src) → answer ≡ Denied → zones ≡ server.zones → LetThroughStep rules server message answer zones
  unreadable : MayUse rules message.src → IsFormError message.bytes.items answer → zones ≡ server.zones → LetThroughStep rules server message answer zones
  -- Its request is answered as it is without rules.
  handled : {request : ReceivedRequest} {replies : List Reply} {sent : List (List ℕ)} → MayUse rules message.src → IsRequestOf message request
      → RequestAnswered server request message.now replies zones → AllZip (IsSentAs (sending_of rules request)) replies sent
      → answer ≡ Replies sent → LetThroughStep rules server message answer zones

abbrev pub LetThroughSteps : {S H : Type 0} → Ghosts H → (S → Signer) → Type 0
LetThroughSteps {S} {H} handler signature_for = (rules : Rules) (catalog : Catalog S H) (message : Incoming) (answer : Answer) (zones : List (DomainName × List H))
    → IsLetThrough rules catalog.zones message → ServedBy rules (server_of handler signature_for catalog) message answer zones
    → LetThroughStep rules (server_of handler signature_for catalog) message answer zones

-- It gets no reply.
abbrev pub HasNoReply : Answer → Type 0
HasNoReply (Replies sent) = ⊥
HasNoReply other = Unit {0}

-- A message that is itself a response, or shorter than a header, has no reply, over whatever transport.
abbrev pub NoReplyToResponses : {S H : Type 0} → Ghosts H → (S → Signer) → Type 0
NoReplyToResponses {S} {H} handler signature_for = (rules : Rules) (catalog : Catalog S H) (message : Incoming) (answer : Answer) (zones : List (DomainName × List H))
    → IsResponse message.bytes.items ⊎ (length message.bytes.items < 12) → ServedBy rules (server_of handler signature_for catalog) message answer zones
    → HasNoReply answer × (zones ≡ catalog.zones)

-- The replies to a request are within the limit of the server and within what its client takes.
abbrev pub AreWithin : Rules → Incoming → List (List ℕ) → Type 0
AreWithin rules message sent = (request : ReceivedRequest) × IsRequestOf message request
    × AllByRecursion (λ (bytes : List ℕ). (length bytes ≤ udp_limit rules) × (length bytes ≤ payload_limit request.message.edns)) sent

-- Over UDP the replies to a request are within both limits. FORMERR to a message that cannot be read has at most 512
-- bytes, which any client takes (RFC 1035 section 4.2.1).
abbrev pub WithinBothLimits : {S H : Type 0} → Ghosts H → (S → Signer) → Type 0
WithinBothLimits {S} {H} handler signature_for = (rules : Rules) (catalog : Catalog S H) (message : Incoming) (sent : List (List ℕ)) (zones : List (DomainName × List H))
    → ServedBy rules (server_of handler signature_for catalog) message (Replies sent) zones → message.protocol ≡ Udp
    → AreWithin rules message sent ⊎ (IsFormError message.bytes.items (Replies sent) × AllByRecursion (λ (bytes : List ℕ). length bytes ≤ 512) sent)

-- What is sent with TC has its OPT record: header, questions and the 11 bytes of an OPT record without options fit the
-- limit (RFC 6891 section 7), as they do with one question, which has 259 bytes at most, in 512.
abbrev pub OptHasRoom : Type 0
OptHasRoom = (limit : ℕ) (reply : Reply) (edns : EdnsFields) (bytes : List ℕ)
    → reply.edns ≡ Some edns → 23 + length reply.question ≤ limit → IsEncoding limit (truncated reply) bytes
    → (header : Header) × ReplyEncoded limit (truncated reply) bytes header × (header.counts.additionals ≡ 1)

-- A request is for this zone: the zone above its apex, if the server asks it for the DS records of that apex (RFC 4035
-- section 3.1.4.1), and else the zone that answers for its name.
pub data IsFor {V : Type 0} (zones : List (DomainName × V)) (request : ReceivedRequest) (zone : DomainName × V) : Type 0 where
  above : IsAskedAbove zones request.message zone → IsFor zones request zone
  own : FindsAbove zones request.message None → IsOfZone zones request zone → IsFor zones request zone

-- The message is one for this zone: its address may use the server, and it is a request for the zone.
pub record IsMessageFor {V : Type 0} (rules : Rules) (zones : List (DomainName × V)) (zone : DomainName × V) (message : Incoming) : Type 0 where
  pub allowed : MayUse rules message.src
  pub request : ReceivedRequest
  pub is_request : IsRequestOf message request
  pub is_for : IsFor zones request zone

-- A message for a zone comes to what it would where the zone is the only one, and leaves the zone as it would leave it
-- there.
abbrev pub ServedAloneBy : {S H : Type 0} → Ghosts H → (S → Signer) → Type 0
ServedAloneBy {S} {H} handler signature_for = (rules : Rules) (catalog : Catalog S H) (message : Incoming) (answer : Answer) (after : List (DomainName × List H)) (apex : DomainName) (chain : List H)
    → AreInOrder catalog.zones → IsMessageFor rules catalog.zones (apex, chain) message
    → ServedBy rules (server_of handler signature_for catalog) message answer after
    → (chain' : List H) × ServedBy rules (record (server_of handler signature_for catalog) { zones = (apex, chain) ∷ [] }) message answer ((apex, chain') ∷ []) × Contains after (apex, chain')

-- A message that is not for a zone leaves it as it was.
abbrev pub OtherZonesStay : {S H : Type 0} → Ghosts H → (S → Signer) → Type 0
OtherZonesStay {S} {H} handler signature_for = (rules : Rules) (catalog : Catalog S H) (message : Incoming) (answer : Answer) (after : List (DomainName × List H)) (apex : DomainName) (chain : List H)
    → Contains catalog.zones (apex, chain) → ¬ (IsMessageFor rules catalog.zones (apex, chain) message)
    → ServedBy rules (server_of handler signature_for catalog) message answer after → Contains after (apex, chain)
