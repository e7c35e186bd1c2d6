-- Questions as octets with their names in full (RFC 1035 section 4.1.2).
use Rattle.std.specs.Prelude.{ℕ, List, ◌++◌}
use Rattle.std.specs.Int.{w16, to_be_bytes}
use Rattle.wire_messages.specs.serialize.writing.FullForm.{name_octets}
use Rattle.wire_names.specs.rr.domain.NameOrder.{lower_name}
use Rattle.wire_messages.specs.declared.op.query.Query.{Query}

-- name, type and class
abbrev pub question_octets : Query → List ℕ
question_octets query = name_octets query.name.labels ++ to_be_bytes w16 query.query_type ++ to_be_bytes w16 query.query_class

-- the question with its name in lower case
abbrev pub lower_question : Query → Query
lower_question query = record { name = lower_name query.name; query_type = query.query_type; query_class = query.query_class }
