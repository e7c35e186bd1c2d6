-- How replies are sent, and the sink that keeps them.
use Rattle.std.specs.Prelude.{ℕ, List, Option}
use Rattle.wire_messages.specs.op.EdnsFields.{EdnsFields}
use Rattle.wire_messages.specs.serialize.writing.Reply.{Reply, size_limit}
use Rattle.wire_messages.specs.declared.protocol.Protocol.{Protocol}
use Rattle.wire_messages.specs.declared.protocol.Protocol.TheVariants.{Tcp, Udp}
use Rattle.hickory_base.specs.requests.Requests.{ReceivedRequest}
use Rattle.hickory_base.specs.responses.EncodingSinks.{IsEncodingOf}
use Rattle.hickory_server.specs.server.Fitted.{IsFitted}
use Rattle.hickory_server.specs.server.Ruling.{datagram_limit}
use Rattle.hickory_server.specs.declared.server.rules.Rules.{Rules}
use Rattle.hickory_server.specs.declared.server.sending.Sending.{Sending}
use Rattle.hickory_server.specs.declared.server.sending.Sending.TheVariants.{Encoded, Fitted}

-- The bytes are what is sent of the reply.
abbrev pub IsSentAs : Sending → Reply → List ℕ → Type 0
IsSentAs (Encoded over) reply bytes = IsEncodingOf over reply bytes
IsSentAs (Fitted limit) reply bytes = IsFitted limit reply bytes

-- how many bytes a reply with this EDNS is first encoded in at most
abbrev pub limit_of : Sending → Option EdnsFields → ℕ
limit_of (Encoded over) edns = size_limit over edns
limit_of (Fitted limit) edns = limit

-- over UDP each within the limit, and over a stream each encoded whole if it has at most 65,535 bytes
abbrev pub sending_over : Protocol → ℕ → Sending
sending_over Udp limit = Fitted limit
sending_over stream limit = Encoded Tcp

-- how the replies to a request are sent by the rules
abbrev pub sending_of : Rules → ReceivedRequest → Sending
sending_of rules request = sending_over request.protocol (datagram_limit rules request)

-- what a sink has: how it sends, what it keeps of each reply in the order in which they came, and how often it failed
pub record SentReplies : Type 0 where
  pub sending : Sending
  pub replies : List (List ℕ)
  pub failures : ℕ
