-- A sink that keeps replies as the bytes that are sent over one transport.
use Rattle.std.specs.Prelude.{ℕ, List}
use Rattle.wire_messages.specs.serialize.writing.Reply.{Reply, size_limit}
use Rattle.hickory_wire.specs.serialize.writing.ReplyParts.{ReplyEncoded}
use Rattle.wire_messages.specs.declared.op.header.Header.{Header}
use Rattle.wire_messages.specs.declared.protocol.Protocol.{Protocol}

-- what the sink has: its transport, the bytes of each reply in the order in which they came, and how often it failed
pub record EncodedReplies : Type 0 where
  pub protocol : Protocol
  pub replies : List (List ℕ)
  pub failures : ℕ

-- The bytes are an encoding of the reply at the transport's limit.
abbrev pub IsEncodingOf : Protocol → Reply → List ℕ → Type 0
IsEncodingOf protocol reply bytes = (header : Header) × ReplyEncoded (size_limit protocol reply.edns) reply bytes header

-- What is told of a reply that is kept as these bytes is their header.
abbrev pub TellsEncoding : Protocol → Reply → List ℕ → Header → Type 0
TellsEncoding protocol reply bytes header = ReplyEncoded (size_limit protocol reply.edns) reply bytes header
