-- When two questions are the same: in name, type and class, names in any letter case (RFC 1035 sections 2.3.3 and
-- 4.1.2).
use Rattle.std.specs.Prelude.{◌≡◌}
use Rattle.wire_names.specs.rr.domain.NameOrder.{SameName}
use Rattle.wire_messages.specs.declared.op.query.Query.{Query}

-- Questions are the same.
pub record SameQuestion (a b : Query) : Type 0 where
  pub name : SameName a.name b.name
  pub query_type : a.query_type ≡ b.query_type
  pub query_class : a.query_class ≡ b.query_class
