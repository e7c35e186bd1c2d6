-- A request as a server sees it: the message, its bytes, and where it came from.
use Rattle.std.specs.Prelude.{ℕ, Bool, List}
use Rattle.std.specs.declared.net.SocketAddr.{SocketAddr}
use Rattle.wire_messages.specs.declared.op.header.Metadata.{Metadata}
use Rattle.wire_messages.specs.declared.protocol.Protocol.{Protocol}
use Rattle.wire_messages.specs.declared.op.query.Query.{Query}
use Rattle.hickory_base.specs.declared.requests.message_request.MessageRequest.{MessageRequest}
use Rattle.hickory_base.specs.declared.server.RequestInfo.{RequestInfo}

-- A request. Whether it was read tells that its message is the one that its bytes begin with; one that was put together
-- has the bytes that are written of it.
pub record ReceivedRequest : Type 0 where
  pub message : MessageRequest
  pub bytes : List ℕ
  pub source : SocketAddr
  pub protocol : Protocol
  pub was_read : Bool

-- a request, and the moment at which it is answered, in seconds since 1970
abbrev pub TimedRequest : Type 0
TimedRequest = ReceivedRequest × ℕ

-- what a handler may know of a request
pub record RequestInformation : Type 0 where
  pub source : SocketAddr
  pub protocol : Protocol
  pub metadata : Metadata
  pub query : Query

-- what it may know of a request with this question
abbrev pub information : ReceivedRequest → Query → RequestInformation
information request query = record { source = request.source; protocol = request.protocol; metadata = request.message.metadata; query = query }

-- what borrowed information says, wherever it lies
abbrev pub information_of : RequestInfo → RequestInformation
information_of info = record { source = info.src; protocol = info.protocol; metadata = info.metadata.now; query = info.query.now }
