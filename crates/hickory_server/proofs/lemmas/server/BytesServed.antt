-- From a request that lent bytes were read as to what becomes of their message.
use Rattle.std.proofs.Common.{◌≤◌, ℕ, List, length, refl}
use Rattle.std.specs.Net.Socket.{socket_ip}
use Rattle.std.specs.declared.net.SocketAddr.{SocketAddr}
use Rattle.wire_names.specs.rr.domain.DomainName.{DomainName}
use Rattle.wire_messages.specs.declared.protocol.Protocol.{Protocol}
use Rattle.server_limits.specs.Access.{AccessSets, IsAllowed}
use Rattle.hickory_base.specs.requests.Requests.{ReceivedRequest}
use Rattle.hickory_catalog.specs.requests.Server.{Server}
use Rattle.hickory_server.specs.server.Ruling.{IsResponse}
use Rattle.hickory_server.specs.server.Sending.{SentReplies}
use Rattle.hickory_server.specs.server.ServedBy.{IsMessageOf, IsReadFrom, IsToBeServed, RequestServed, ServedBy, request}
use Rattle.hickory_server.specs.server.Serving.{IsRequestOf, LeavesRequest, LeavesUnserved}
use Rattle.hickory_server.specs.declared.server.answer.Answer.TheVariants.{Replies}
use Rattle.hickory_server.specs.declared.server.rules.Rules.{Rules}
use Rattle.hickory_server.specs.declared.server.serve.Incoming.{Incoming}
use Rattle.hickory_server.specs.declared.server.serve.ServeError.{ServeError}
use Rattle.hickory_server.specs.declared.server.serve.ServeError.TheVariants.{Memory, MemoryAfterHandling}

-- a request that was read from a message which is served
pub to_be_served : {bytes : List ℕ} {source : SocketAddr} {protocol : Protocol} (access : AccessSets) (r : ReceivedRequest) → IsReadFrom bytes source protocol r
    → IsAllowed access.deny access.allow (socket_ip source) → 12 ≤ length bytes → ¬ (IsResponse bytes) → IsToBeServed access r
to_be_served access r read allowed whole no_response = record {
  read = record { stands = rw read.raw read.stands; reads = rw read.raw read.reads; questions = rw read.raw read.questions; raw = refl; was_read = read.was_read; source_is = refl; protocol_is = refl };
  allowed = rw read.source_is allowed;
  whole = rw read.raw whole;
  no_response = rw read.raw no_response;
}

module _ {bytes : List ℕ} {source : SocketAddr} {protocol : Protocol} {now : ℕ} (message : Incoming) (is : IsMessageOf bytes source protocol now message) (r : ReceivedRequest) where
  -- the request that bytes were read as is that of the message of these bytes
  pub read_as : IsReadFrom bytes source protocol r → IsRequestOf message r
  read_as read = record {
    stands = rw is.bytes_are read.stands;
    reads = rw is.bytes_are read.reads;
    questions = rw is.bytes_are read.questions;
    raw = rw is.bytes_are read.raw;
    was_read = read.was_read;
    source_is = rw is.source_is read.source_is;
    protocol_is = rw is.protocol_is read.protocol_is;
  }

  module _ {H : Type 0} (rules : Rules) (server : Server H) (allowed : IsAllowed rules.access.deny rules.access.allow (socket_ip source)) (read : IsRequestOf message r) where
    -- what is sent to the request is sent to the message
    pub served : (sent : List (List ℕ)) (zones : List (DomainName × List H)) → 12 ≤ length bytes → ¬ (IsResponse bytes)
        → RequestServed rules server r now sent zones → ServedBy rules server message (Replies sent) zones
    served sent zones whole no_response served_so =
        request {request = r} {sent = sent} (rw is.source_is allowed) (rw is.bytes_are whole) (rw is.bytes_are no_response) read (rw is.now_is served_so) refl

    -- what the request leaves is what the message leaves
    pub left : (sink : SentReplies) (e : ServeError) (zones : List (DomainName × List H)) → LeavesRequest server r now sink e zones → LeavesUnserved rules.access server message e zones
    left sink Memory zones leaves = (rw is.source_is allowed, leaves.2)
    left sink MemoryAfterHandling zones leaves = (rw is.source_is allowed, r, read, sink, rw is.now_is leaves)
