-- The records of a zone by owner name and type.
use Rattle.std.specs.Prelude.{ℕ, Bool, ◌==◌, ◌&&◌, List, [], ◌∷◌, filter, Option, Some, None}
use Rattle.wire_names.specs.rr.domain.DomainName.{DomainName}
use Rattle.wire_names.specs.rr.domain.NameOrder.{name_eq}
use Rattle.wire_messages.specs.rr.RecordData.{type_of}
use Rattle.wire_messages.specs.declared.rr.rdata.RData.{RData}
use Rattle.wire_messages.specs.declared.rr.record.Record.{Record}

-- the record has this owner name, in any letter case
abbrev pub is_at : DomainName → Record RData → Bool
is_at name r = name_eq name r.name

-- the record has this owner name and type
abbrev pub is_of : DomainName → ℕ → Record RData → Bool
is_of name record_type r = is_at name r && (record_type == type_of r.rdata)

-- the RRset of the name and type (RFC 2181 section 5), without records where the zone has none
abbrev pub rrset : List (Record RData) → DomainName → ℕ → List (Record RData)
rrset records name record_type = filter (is_of name record_type) records

-- an RRset that has records
abbrev pub existing : List (Record RData) → Option (List (Record RData))
existing [] = None
existing (r ∷ rs) = Some (r ∷ rs)
