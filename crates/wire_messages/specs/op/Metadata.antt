-- The header of a message but for its counts (RFC 1035 section 4.1.1).
use Rattle.std.specs.Prelude.{ℕ, false}
use Rattle.wire_messages.specs.Numbers.{code_no_error}
use Rattle.wire_messages.specs.declared.op.header.MessageType.{MessageType}
use Rattle.wire_messages.specs.declared.op.header.MessageType.TheVariants.{Response}
use Rattle.wire_messages.specs.declared.op.header.Metadata.{Metadata}

-- no flag is set, and there is no error
abbrev pub bare_metadata : ℕ → MessageType → ℕ → Metadata
bare_metadata id message_type op_code = record {
  id = id;
  message_type = message_type;
  op_code = op_code;
  authoritative = false;
  truncation = false;
  recursion_desired = false;
  recursion_available = false;
  authentic_data = false;
  checking_disabled = false;
  response_code = code_no_error;
}

-- a reply has the request's id, kind, RD and CD
abbrev pub response_to : Metadata → Metadata
response_to request = record (bare_metadata request.id Response request.op_code) { recursion_desired = request.recursion_desired; checking_disabled = request.checking_disabled }
