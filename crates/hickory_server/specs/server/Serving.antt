-- What becomes of messages that come one after the other.
use Rattle.std.specs.Prelude.{◌≡◌, ◌<◌, ◌⊎◌, ◌++◌, ◌∷◌, [], ℕ, true, List}
use Rattle.std.specs.Net.Socket.{socket_ip}
use Rattle.std.specs.List.{AllZip}
use Rattle.wire_names.specs.rr.domain.DomainName.{DomainName}
use Rattle.wire_reading.specs.serialize.layout.WholeMessage.{MessageAt}
use Rattle.wire_reading.specs.serialize.reading.MessageReading.{Reads}
use Rattle.wire_messages.specs.serialize.writing.Reply.{Reply}
use Rattle.wire_messages.specs.declared.protocol.Protocol.{Protocol}
use Rattle.wire_names.specs.declared.error.ProtoError.{ProtoError}
use Rattle.server_limits.specs.Access.{AccessSets, IsAllowed}
use Rattle.hickory_base.specs.requests.RequestReading.{IsFaultOf, IsQuestionSection, message_of}
use Rattle.hickory_base.specs.requests.Requests.{ReceivedRequest}
use Rattle.hickory_base.specs.responses.EncodingSinks.{IsEncodingOf}
use Rattle.hickory_base.specs.declared.errors.CatalogError.TheVariants.{MemoryAfterUpdate}
use Rattle.hickory_catalog.specs.requests.Requests.{RequestAnswered, RequestLeaves}
use Rattle.hickory_catalog.specs.requests.Server.{Server}
use Rattle.hickory_server.specs.server.Sending.{SentReplies}
use Rattle.hickory_server.specs.declared.server.serve.Incoming.{Incoming}
use Rattle.hickory_server.specs.declared.server.serve.Outcome.{Outcome}
use Rattle.hickory_server.specs.declared.server.serve.Outcome.TheVariants.{Denied, Replies, Unreadable}
use Rattle.hickory_server.specs.declared.server.serve.ServeError.{ServeError}
use Rattle.hickory_server.specs.declared.server.serve.ServeError.TheVariants.{Memory, MemoryAfterHandling}

-- The request that begins the bytes of a message, as it stands there (RFC 1035 section 4.1) and as it is read, with the
-- address and the transport that it came from.
pub record IsRequestOf (message : Incoming) (request : ReceivedRequest) : Type 0 where
  pub stands : MessageAt message.bytes.items (message_of request.message)
  pub reads : Reads message.bytes.items (message_of request.message)
  pub questions : IsQuestionSection message.bytes.items request.message.queries
  pub raw : request.bytes ≡ message.bytes.items
  pub was_read : request.was_read ≡ true
  pub source_is : request.source ≡ message.src
  pub protocol_is : request.protocol ≡ message.protocol

-- What becomes of a message, and the zones after it, if these addresses may use the server, and replies are encoded at
-- the limit of this transport. Only an update changes a zone.
pub data StepOver {H : Type 0} (over : Protocol) (access : AccessSets) (server : Server H) (message : Incoming) (outcome : Outcome) (zones : List (DomainName × List H)) : Type 0 where
  -- Its address may not.
  denied : ¬ (IsAllowed access.deny access.allow (socket_ip message.src)) → outcome ≡ Denied → zones ≡ server.zones → StepOver over access server message outcome zones
  -- Its bytes begin with no message.
  unreadable : {e : ProtoError} → IsAllowed access.deny access.allow (socket_ip message.src) → IsFaultOf message.bytes.items e
      → outcome ≡ Unreadable → zones ≡ server.zones → StepOver over access server message outcome zones
  -- It is a request. Its replies are sent, each encoded at the limit.
  handled : {request : ReceivedRequest} {replies : List Reply} {encoded : List (List ℕ)} → IsAllowed access.deny access.allow (socket_ip message.src) → IsRequestOf message request
      → RequestAnswered server request message.now replies zones → AllZip (IsEncodingOf over) replies encoded
      → outcome ≡ Replies encoded → StepOver over access server message outcome zones

-- The same at the limit of the message's own transport.
abbrev pub Step : {H : Type 0} → AccessSets → Server H → Incoming → Outcome → List (DomainName × List H) → Type 0
Step access server message = StepOver message.protocol access server message

-- What becomes of messages, one after the other, each handled over the zones as those before it left them.
pub data Run {H : Type 0} (access : AccessSets) (server : Server H) : List (DomainName × List H) → List Incoming → List Outcome → List (DomainName × List H) → Type 0 where
  none : {zones : List (DomainName × List H)} → Run access server zones [] [] zones
  next : {zones between after : List (DomainName × List H)} {message : Incoming} {outcome : Outcome} {messages : List Incoming} {outcomes : List Outcome}
      → Step access (record server { zones = zones }) message outcome between
      → Run access server between messages outcomes after
      → Run access server zones (message ∷ messages) (outcome ∷ outcomes) after

-- What is left of a request for which memory was refused: the sink that was to have its replies, which had none before,
-- and the zones.
abbrev pub LeavesRequest : {H : Type 0} → Server H → ReceivedRequest → ℕ → SentReplies → ServeError → List (DomainName × List H) → Type 0
-- The sink was handed nothing, and the zones are as before.
LeavesRequest server request now sink Memory zones = (sink.failures ≡ 0) × (sink.replies ≡ []) × (zones ≡ server.zones)
-- The request was answered, and the sink failed at a reply; or an update was made, and the sink was handed nothing.
LeavesRequest server request now sink MemoryAfterHandling zones = ((0 < sink.failures) × (replies : List Reply) × RequestAnswered server request now replies zones)
    ⊎ ((sink.failures ≡ 0) × (sink.replies ≡ []) × RequestLeaves server request now MemoryAfterUpdate zones)

-- The zones after a message for which memory was refused, whose address may use the server: as before, or as after its
-- request.
abbrev pub LeavesUnserved : {H : Type 0} → AccessSets → Server H → Incoming → ServeError → List (DomainName × List H) → Type 0
LeavesUnserved access server message Memory zones = IsAllowed access.deny access.allow (socket_ip message.src) × (zones ≡ server.zones)
LeavesUnserved access server message MemoryAfterHandling zones = IsAllowed access.deny access.allow (socket_ip message.src)
    × (request : ReceivedRequest) × IsRequestOf message request × (sink : SentReplies) × LeavesRequest server request message.now sink MemoryAfterHandling zones

-- Memory was refused for a message: those before it have their outcomes, and those behind it were not looked at.
pub record RunFailed {H : Type 0} (access : AccessSets) (server : Server H) (messages : List Incoming) (outcomes : List Outcome) (e : ServeError) (zones : List (DomainName × List H)) : Type 0 where
  pub front : List Incoming
  pub message : Incoming
  pub behind : List Incoming
  pub messages_are : messages ≡ front ++ message ∷ behind
  pub between : List (DomainName × List H)
  pub run : Run access server server.zones front outcomes between
  -- It was refused while the message was served; or before, for the place of its outcome.
  pub left : LeavesUnserved access (record server { zones = between }) message e zones ⊎ ((e ≡ Memory) × (zones ≡ between))
