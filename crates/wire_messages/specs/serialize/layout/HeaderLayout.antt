-- The twelve bytes of a header (RFC 1035 section 4.1.1; AD and CD: RFC 4035 section 3.2).
use Rattle.std.specs.Prelude.{◌≡◌, ℕ, ◌+◌, ◌*◌, ◌/◌, ◌%◌, ◌^◌, ◌<◌, List, [], ◌∷◌, ◌++◌, Bool, true, false, ◌==◌, if◌then◌else◌}
use Rattle.std.specs.Int.{w16, to_be_bytes}
use Rattle.wire_names.specs.serialize.layout.Bytes.{BytesAt}
use Rattle.wire_messages.specs.declared.op.header.Header.{Header}
use Rattle.wire_messages.specs.declared.op.header.HeaderCounts.{HeaderCounts}
use Rattle.wire_messages.specs.declared.op.header.MessageType.{MessageType}
use Rattle.wire_messages.specs.declared.op.header.MessageType.TheVariants as message_type
use Rattle.wire_messages.specs.declared.op.header.Metadata.{Metadata}

-- whether a bit of a byte is set; bit 0 is the lowest
abbrev pub bit : ℕ → ℕ → Bool
bit byte k = byte / 2 ^ k % 2 == 1

-- What the two bytes of flags say: QR, opcode (4 bits), AA, TC, RD; RA, an unused bit, AD, CD, the low response code (4
-- bits).
abbrev pub metadata_of : ℕ → ℕ → ℕ → Metadata
metadata_of id one two = record {
  id = id;
  message_type = if bit one 7 then message_type.Response else message_type.Query;
  op_code = one / 8 % 16;
  authoritative = bit one 2;
  truncation = bit one 1;
  recursion_desired = bit one 0;
  recursion_available = bit two 7;
  authentic_data = bit two 5;
  checking_disabled = bit two 4;
  response_code = two % 16;
}

-- a set bit as a number
abbrev pub flag : Bool → ℕ → ℕ
flag is_set k = if is_set then 2 ^ k else 0

abbrev pub is_response : MessageType → Bool
is_response message_type.Response = true
is_response message_type.Query = false

-- the first byte of flags
abbrev pub first_flags : Metadata → ℕ
first_flags m = flag (is_response m.message_type) 7 + m.op_code * 8 + flag m.authoritative 2 + flag m.truncation 1 + flag m.recursion_desired 0

-- the second, with the low four bits of the response code; the unused bit is 0
abbrev pub second_flags : Metadata → ℕ
second_flags m = flag m.recursion_available 7 + flag m.authentic_data 5 + flag m.checking_disabled 4 + m.response_code % 16

-- QDCOUNT, ANCOUNT, NSCOUNT and ARCOUNT
abbrev pub count_octets : HeaderCounts → List ℕ
count_octets counts = to_be_bytes w16 counts.queries ++ to_be_bytes w16 counts.answers ++ to_be_bytes w16 counts.authorities ++ to_be_bytes w16 counts.additionals

-- the header as it is written
abbrev pub header_octets : Header → List ℕ
header_octets h = to_be_bytes w16 h.metadata.id ++ (first_flags h.metadata ∷ second_flags h.metadata ∷ []) ++ count_octets h.counts

-- each count has 16 bits
pub record AreCounts (counts : HeaderCounts) : Type 0 where
  pub queries : counts.queries < 2 ^ 16
  pub answers : counts.answers < 2 ^ 16
  pub authorities : counts.authorities < 2 ^ 16
  pub additionals : counts.additionals < 2 ^ 16

-- The header stands at the front of the bytes. The unused bit is free.
pub record HeaderAt (bytes : List ℕ) (h : Header) : Type 0 where
  pub id : ℕ
  pub one : ℕ
  pub two : ℕ
  pub stands : BytesAt bytes 0 (to_be_bytes w16 id ++ (one ∷ two ∷ []) ++ count_octets h.counts)
  pub id_small : id < 2 ^ 16
  pub counts : AreCounts h.counts
  pub metadata : h.metadata ≡ metadata_of id one two
