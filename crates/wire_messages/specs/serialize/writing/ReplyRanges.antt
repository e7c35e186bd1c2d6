-- Which numbers the header and the OPT record of a reply hold (RFC 1035 section 4.1.1, RFC 6891 section 6.1.3).
use Rattle.std.specs.Prelude.{◌<◌, ◌^◌, IfSome}
use Rattle.wire_messages.specs.op.EdnsFields.{EdnsFields}
use Rattle.wire_messages.specs.serialize.writing.Reply.{Reply}
use Rattle.wire_messages.specs.declared.op.header.Metadata.{Metadata}

-- id, kind and code are such as their bits hold, the code's high eight those of an OPT record
pub record IsMetadataInRange (m : Metadata) : Type 0 where
  pub id : m.id < 2 ^ 16
  pub op_code : m.op_code < 2 ^ 4
  pub response_code : m.response_code < 2 ^ 12

-- so are the fields in the TTL of an OPT record
pub record IsEdnsInRange (e : EdnsFields) : Type 0 where
  pub rcode_high : e.rcode_high < 2 ^ 8
  pub version : e.version < 2 ^ 8
  pub reserved_flags : e.reserved_flags < 2 ^ 15

-- and those of a reply
pub record IsReplyInRange (reply : Reply) : Type 0 where
  pub metadata : IsMetadataInRange reply.metadata
  pub edns : IfSome reply.edns IsEdnsInRange
