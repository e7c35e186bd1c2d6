-- What an OPT record says of its message (RFC 6891 section 6.1).
use Rattle.std.specs.Prelude.{ℕ, Bool, List}
use Rattle.wire_messages.specs.declared.op.edns.EdnsOption.{EdnsOption}

-- The payload stands in the record's class; the high code, the version, DO and the fifteen flags behind it in the TTL.
pub record EdnsFields : Type 0 where
  pub max_payload : ℕ
  pub rcode_high : ℕ
  pub version : ℕ
  pub dnssec_ok : Bool
  pub reserved_flags : ℕ
  pub options : List EdnsOption
