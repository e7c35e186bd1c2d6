-- Sets of records of one name and type (RFC 2181 section 5).
use Rattle.std.specs.Prelude.{◌≡◌, List, [], ◌∷◌}
use Rattle.std.specs.List.{AllByRecursion}
use Rattle.wire_names.specs.rr.domain.NameOrder.{SameName}
use Rattle.wire_messages.specs.rr.RecordData.{type_of}
use Rattle.wire_messages.specs.declared.rr.rdata.RData.{RData}
use Rattle.wire_messages.specs.declared.rr.record.Record.{Record}

-- the records are of one name and type
pub record SameSet (r q : Record RData) : Type 0 where
  pub name : SameName r.name q.name
  pub record_type : type_of r.rdata ≡ type_of q.rdata

-- at least one record, all of one name and type
abbrev pub IsRecordSet : List (Record RData) → Type 0
IsRecordSet [] = ⊥
IsRecordSet (r ∷ rs) = AllByRecursion (SameSet r) rs
