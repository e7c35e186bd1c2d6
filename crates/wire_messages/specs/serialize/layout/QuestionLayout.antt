-- How a question stands in the bytes of a message (RFC 1035 section 4.1.2).
use Rattle.std.specs.Prelude.{◌≡◌, ℕ, ◌+◌, ◌<◌, ◌^◌, List, ◌++◌}
use Rattle.std.specs.Int.{w16, to_be_bytes}
use Rattle.wire_names.specs.serialize.layout.Bytes.{BytesAt}
use Rattle.wire_messages.specs.serialize.layout.NameLayout.{NameAt, IsFullyQualified}
use Rattle.wire_messages.specs.declared.op.query.Query.{Query}

-- The question stands at place, and next is the place behind it: its name, its type and its class.
-- No byte that is read for it lies below floor.
pub record QuestionAt (floor : ℕ) (bytes : List ℕ) (place : ℕ) (query : Query) (next : ℕ) : Type 0 where
  pub middle : ℕ
  pub name : NameAt floor bytes place query.name middle
  pub fields : BytesAt bytes middle (to_be_bytes w16 query.query_type ++ to_be_bytes w16 query.query_class)
  pub after : next ≡ middle + 4

-- a question that reads back as itself
pub record IsFormedQuestion (query : Query) : Type 0 where
  pub name : IsFullyQualified query.name
  pub query_type : query.query_type < 2 ^ 16
  pub query_class : query.query_class < 2 ^ 16
