-- What becomes of a message, by the rules of a server.
use Rattle.std.specs.Prelude.{◌≡◌, ◌≤◌, ◌<◌, ◌∷◌, [], ℕ, true, List, None, length}
use Rattle.std.specs.List.{AllZip}
use Rattle.std.specs.Net.Socket.{socket_ip}
use Rattle.std.specs.declared.net.SocketAddr.{SocketAddr}
use Rattle.wire_names.specs.rr.domain.DomainName.{DomainName}
use Rattle.wire_names.specs.declared.error.ProtoError.{ProtoError}
use Rattle.wire_messages.specs.serialize.writing.Reply.{Reply}
use Rattle.wire_messages.specs.declared.protocol.Protocol.{Protocol}
use Rattle.wire_reading.specs.serialize.layout.WholeMessage.{MessageAt}
use Rattle.wire_reading.specs.serialize.reading.MessageReading.{Reads}
use Rattle.server_limits.specs.Access.{AccessSets, IsAllowed}
use Rattle.hickory_base.specs.requests.RequestReading.{IsFaultOf, IsQuestionSection, message_of}
use Rattle.hickory_base.specs.requests.Requests.{ReceivedRequest}
use Rattle.hickory_catalog.specs.queries.Queries.{ChainReplies}
use Rattle.hickory_catalog.specs.replies.ReplyEdns.{reply_edns}
use Rattle.hickory_catalog.specs.requests.Requests.{RequestAnswered}
use Rattle.hickory_catalog.specs.requests.Server.{Server}
use Rattle.hickory_catalog.specs.transfers.WholeTransfers.{TransferReplies}
use Rattle.hickory_server.specs.server.Above.{FindsAbove, IsAskedAbove}
use Rattle.hickory_server.specs.server.FormErrors.{IsFormError}
use Rattle.hickory_server.specs.server.Ruling.{IsResponse, IsRuling, MayUse, refusal, truncation}
use Rattle.hickory_server.specs.server.Sending.{IsSentAs, sending_of}
use Rattle.hickory_server.specs.server.Serving.{IsRequestOf, LeavesUnserved}
use Rattle.hickory_server.specs.declared.server.answer.Answer.{Answer}
use Rattle.hickory_server.specs.declared.server.answer.Answer.TheVariants.{Denied, Replies, Response, Unreadable}
use Rattle.hickory_server.specs.declared.server.rules.Rules.{Rules}
use Rattle.hickory_server.specs.declared.server.rules.Ruling.TheVariants.{Pass, Refuse, Transfer, Truncate}
use Rattle.hickory_server.specs.declared.server.serve.Incoming.{Incoming}
use Rattle.hickory_server.specs.declared.server.serve.ServeError.{ServeError}

-- The replies to a request that passes, at this moment, and the zones after it.
pub data ZonesAnswer {H : Type 0} (server : Server H) (request : ReceivedRequest) (now : ℕ) (replies : List Reply) (zones : List (DomainName × List H)) : Type 0 where
  -- It is for the DS records of an apex, and the server has a zone above it: that zone answers (RFC 4035 section
  -- 3.1.4.1).
  above : {zone : DomainName × List H} → IsAskedAbove server.zones request.message zone
      → ChainReplies server zone.1 request (reply_edns server.identifier request.message.edns) now replies
      → zones ≡ server.zones → ZonesAnswer server request now replies zones
  -- Any other is answered as it is without rules.
  own : FindsAbove server.zones request.message None → RequestAnswered server request now replies zones → ZonesAnswer server request now replies zones

-- What is sent of the replies to a request, by the rules, at this moment, and the zones after it.
pub data RequestServed {H : Type 0} (rules : Rules) (server : Server H) (request : ReceivedRequest) (now : ℕ) (sent : List (List ℕ)) (zones : List (DomainName × List H)) : Type 0 where
  refused : {bytes : List ℕ} → IsRuling rules request Refuse → IsSentAs (sending_of rules request) (refusal server request) bytes
      → sent ≡ bytes ∷ [] → zones ≡ server.zones → RequestServed rules server request now sent zones
  truncated : {bytes : List ℕ} → IsRuling rules request Truncate → IsSentAs (sending_of rules request) (truncation request) bytes
      → sent ≡ bytes ∷ [] → zones ≡ server.zones → RequestServed rules server request now sent zones
  transferred : {replies : List Reply} → IsRuling rules request Transfer
      → TransferReplies server request (reply_edns server.identifier request.message.edns) now replies
      → AllZip (IsSentAs (sending_of rules request)) replies sent → zones ≡ server.zones → RequestServed rules server request now sent zones
  passed : {replies : List Reply} → IsRuling rules request Pass → ZonesAnswer server request now replies zones
      → AllZip (IsSentAs (sending_of rules request)) replies sent → RequestServed rules server request now sent zones

-- What becomes of a message, by the rules, and the zones after it: one of these, and no two.
pub data ServedBy {H : Type 0} (rules : Rules) (server : Server H) (message : Incoming) (answer : Answer) (zones : List (DomainName × List H)) : Type 0 where
  -- Its address may not use the server.
  denied : ¬ (MayUse rules message.src) → answer ≡ Denied → zones ≡ server.zones → ServedBy rules server message answer zones
  -- It is shorter than a header, which has twelve bytes.
  short : MayUse rules message.src → length message.bytes.items < 12 → answer ≡ Unreadable → zones ≡ server.zones → ServedBy rules server message answer zones
  -- It is itself a response, and gets none: two servers would answer each other without end.
  response : MayUse rules message.src → 12 ≤ length message.bytes.items → IsResponse message.bytes.items → answer ≡ Response → zones ≡ server.zones
      → ServedBy rules server message answer zones
  -- Its header can be read, and its body cannot.
  unreadable : {e : ProtoError} → MayUse rules message.src → 12 ≤ length message.bytes.items → ¬ (IsResponse message.bytes.items)
      → IsFaultOf message.bytes.items e → IsFormError message.bytes.items answer → zones ≡ server.zones → ServedBy rules server message answer zones
  -- It is a request. Its replies are sent, over UDP within the limits of its client and of the server.
  request : {request : ReceivedRequest} {sent : List (List ℕ)} → MayUse rules message.src
      → 12 ≤ length message.bytes.items → ¬ (IsResponse message.bytes.items) → IsRequestOf message request → RequestServed rules server request message.now sent zones
      → answer ≡ Replies sent → ServedBy rules server message answer zones

-- A message has these bytes, and came from there at that moment.
pub record IsMessageOf (bytes : List ℕ) (source : SocketAddr) (protocol : Protocol) (now : ℕ) (message : Incoming) : Type 0 where
  pub bytes_are : message.bytes.items ≡ bytes
  pub source_is : message.src ≡ source
  pub protocol_is : message.protocol ≡ protocol
  pub now_is : message.now ≡ now

-- a message as it came: its bytes, the address, the transport, and the moment in seconds since 1970
pub record Arrival : Type 0 where
  pub bytes : List ℕ
  pub source : SocketAddr
  pub protocol : Protocol
  pub now : ℕ

abbrev pub arrival : List ℕ → SocketAddr → Protocol → ℕ → Arrival
arrival bytes source protocol now = record { bytes = bytes; source = source; protocol = protocol; now = now }

-- a request, at this moment, as it came
abbrev pub arrival_of : ReceivedRequest → ℕ → Arrival
arrival_of received = arrival received.bytes received.source received.protocol

-- The request that begins these bytes, as it stands there (RFC 1035 section 4.1) and as it is read, with the address
-- and the transport that they came from.
pub record IsReadFrom (bytes : List ℕ) (source : SocketAddr) (protocol : Protocol) (request : ReceivedRequest) : Type 0 where
  pub stands : MessageAt bytes (message_of request.message)
  pub reads : Reads bytes (message_of request.message)
  pub questions : IsQuestionSection bytes request.message.queries
  pub raw : request.bytes ≡ bytes
  pub was_read : request.was_read ≡ true
  pub source_is : request.source ≡ source
  pub protocol_is : request.protocol ≡ protocol

-- A request was read from its bytes, its address may use the server, and it is no shorter than a header and itself no
-- response.
pub record IsToBeServed (access : AccessSets) (request : ReceivedRequest) : Type 0 where
  pub read : IsReadFrom request.bytes request.source request.protocol request
  pub allowed : IsAllowed access.deny access.allow (socket_ip request.source)
  pub whole : 12 ≤ length request.bytes
  pub no_response : ¬ (IsResponse request.bytes)

-- What becomes of a message whose bytes are lent.
abbrev pub BytesServed : {H : Type 0} → Rules → Server H → Arrival → Answer → List (DomainName × List H) → Type 0
BytesServed rules server came answer zones = (message : Incoming) → IsMessageOf came.bytes came.source came.protocol came.now message → ServedBy rules server message answer zones

-- The zones after a message whose bytes are lent, for which memory was refused.
abbrev pub LeavesBytes : {H : Type 0} → Rules → Server H → Arrival → ServeError → List (DomainName × List H) → Type 0
LeavesBytes rules server came e zones = (message : Incoming) → IsMessageOf came.bytes came.source came.protocol came.now message → LeavesUnserved rules.access server message e zones
