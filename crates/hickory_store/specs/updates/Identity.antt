-- The identity of a zone's records (RFC 2136 section 1.1): owner name, class, type and data, names in any letter case.
-- A record's TTL is no part of it, so a zone has each identity at most once, with one TTL.
use Rattle.std.specs.Prelude.{◌≡◌, ◌&&◌, ℕ, nat_eq, Bool, cond, List, [], ◌∷◌, Option, Some, None}
use Rattle.wire_names.specs.rr.domain.DomainName.{DomainName}
use Rattle.wire_names.specs.rr.domain.NameOrder.{encloses, name_eq}
use Rattle.wire_messages.specs.contracts.rr.rdata.RDataPartialEq.TheImpl as by_data
use Rattle.wire_messages.specs.declared.rr.rdata.RData.{RData}
use Rattle.wire_messages.specs.declared.rr.record.Record.{Record}
use Rattle.hickory_base.specs.zone_store.ZoneRecords.{rrset}

-- data of one type that are equal field by field, names in any letter case, as `==` compares them
abbrev pub same_data : RData → RData → Bool
same_data a b = by_data.ghosts.eq a b

-- one identity
abbrev pub same_record : Record RData → Record RData → Bool
same_record r q = name_eq r.name q.name && (nat_eq r.dns_class q.dns_class && same_data r.rdata q.rdata)

-- the TTL of the record of this identity, if the zone has one
abbrev pub ttl_at : List (Record RData) → Record RData → Option ℕ
ttl_at [] q = None
ttl_at (r ∷ rs) q = cond (same_record q r) (Some r.ttl) (ttl_at rs q)

-- Two lists of records stand for one zone: each identity has the same TTL in both, or is in neither.
abbrev pub SameZone : List (Record RData) → List (Record RData) → Type 0
SameZone zone other = (q : Record RData) → ttl_at zone q ≡ ttl_at other q

-- Each RRset (RFC 2181 section 5) has the same records in both lists, in the same order.
abbrev pub SameRrsets : List (Record RData) → List (Record RData) → Type 0
SameRrsets zone other = (name : DomainName) (record_type : ℕ) → rrset zone name record_type ≡ rrset other name record_type

-- The name is the zone's origin, or below it, whatever is delegated (`zone_of` in RFC 2136 sections 3.2.5 and 3.4.1.3).
abbrev pub is_in_zone : DomainName → DomainName → Bool
is_in_zone origin name = encloses origin.labels name.labels
