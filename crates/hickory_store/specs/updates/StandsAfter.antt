-- Which records are in a zone after one record of the update section, case by case (RFC 2136 sections 3.4.2.2 to
-- 3.4.2.4), by the rules of the Rust crate hickory-server.
use Rattle.std.specs.Prelude.{◌≡◌, ◌≢◌, ◌⊎◌, ◌↔◌, false, IsTrue, List, Contains, Some}
use Rattle.wire_names.specs.rr.domain.DomainName.{DomainName}
use Rattle.wire_names.specs.rr.domain.NameOrder.{SameName}
use Rattle.wire_messages.specs.Numbers.{class_any, class_in, class_none, type_any, type_cname, type_ns, type_soa}
use Rattle.wire_messages.specs.rr.RecordData.{type_of}
use Rattle.wire_messages.specs.rr.RecordSameness.{SameRecord}
use Rattle.wire_messages.specs.declared.rr.rdata.RData.{RData}
use Rattle.wire_messages.specs.declared.rr.record.Record.{Record}
use Rattle.hickory_store.specs.updates.Changes.{after_record, in_class, is_newer}
use Rattle.hickory_store.specs.updates.Identity.{ttl_at}

-- q is of the RRset of r: it has the owner name and the type of r.
abbrev pub IsOfRrset : Record RData → Record RData → Type 0
IsOfRrset r q = SameName r.name q.name × (type_of q.rdata ≡ type_of r.rdata)

-- CNAME and SOA stand alone in their RRsets.
abbrev pub StandsAlone : Record RData → Type 0
StandsAlone r = (type_of r.rdata ≡ type_cname) ⊎ (type_of r.rdata ≡ type_soa)

-- The record r, which would be added, is ignored (section 3.4.2.2): it is a CNAME, and its name has a record of another
-- type; it is another record, and its name has a CNAME; or it is an SOA, and its name has none, or has one that it is
-- not newer than.
pub data IsIgnored (zone : List (Record RData)) (r : Record RData) : Type 0 where
  cname_beside_other : {q : Record RData} → type_of r.rdata ≡ type_cname → Contains zone q → SameName r.name q.name
      → type_of q.rdata ≢ type_cname → IsIgnored zone r
  other_beside_cname : {q : Record RData} → type_of r.rdata ≢ type_cname → Contains zone q → SameName r.name q.name
      → type_of q.rdata ≡ type_cname → IsIgnored zone r
  soa_where_none : type_of r.rdata ≡ type_soa → ((q : Record RData) → Contains zone q → ¬ (IsOfRrset r q)) → IsIgnored zone r
  soa_not_newer : {q : Record RData} → type_of r.rdata ≡ type_soa → Contains zone q → IsOfRrset r q
      → ¬ (IsTrue (is_newer r.rdata q.rdata)) → IsIgnored zone r

-- The zone has the record r with its TTL, and no other record that r, a CNAME or an SOA, would replace.
abbrev pub AddsNothingNew : List (Record RData) → Record RData → Type 0
AddsNothingNew zone r =
    (ttl_at zone r ≡ Some r.ttl) × (StandsAlone r → (q : Record RData) → Contains zone q → IsOfRrset r q → SameRecord r q)

-- The record r, of class IN, is added, but where it is ignored, and where it adds nothing new (section 3.4.2.2).
abbrev pub IsAdded : List (Record RData) → Record RData → Type 0
IsAdded zone r = (r.dns_class ≡ class_in) × (¬ (IsIgnored zone r)) × (¬ (AddsNothingNew zone r))

-- q is an SOA or an NS of the apex.
abbrev pub IsApexSoaOrNs : DomainName → Record RData → Type 0
IsApexSoaOrNs origin q = SameName origin q.name × ((type_of q.rdata ≡ type_soa) ⊎ (type_of q.rdata ≡ type_ns))

-- The record r, of class NONE, is to delete an NS beside which its RRset has no other.
abbrev pub IsOnlyNs : List (Record RData) → Record RData → Type 0
IsOnlyNs zone r =
    (type_of r.rdata ≡ type_ns) × ((q : Record RData) → Contains zone q → IsOfRrset r q → SameRecord (in_class r) q)

-- The record r deletes q, which stands in the zone: r is added and replaces the same record, or its RRset (section
-- 3.4.2.2); r is of class ANY, and deletes an RRset, or with type ANY all of a name, but of the apex neither SOA nor NS
-- (section 3.4.2.3); or r is of class NONE, and deletes this one record, but no SOA and not the only NS of its name
-- (section 3.4.2.4).
pub data Deletes (origin : DomainName) (zone : List (Record RData)) (r q : Record RData) : Type 0 where
  replaces_record : IsAdded zone r → SameRecord r q → Deletes origin zone r q
  replaces_rrset : IsAdded zone r → StandsAlone r → IsOfRrset r q → Deletes origin zone r q
  deletes_rrset : r.dns_class ≡ class_any → IsOfRrset r q → ¬ (IsApexSoaOrNs origin q) → Deletes origin zone r q
  deletes_name : r.dns_class ≡ class_any → type_of r.rdata ≡ type_any → SameName r.name q.name → ¬ (IsApexSoaOrNs origin q)
      → Deletes origin zone r q
  deletes_record : r.dns_class ≡ class_none → SameRecord (in_class r) q → type_of r.rdata ≢ type_soa → ¬ (IsOnlyNs zone r)
      → Deletes origin zone r q

-- q stands in the zone after the record r: it is r, which is added; or it stood there before, and r does not delete it.
abbrev pub StandsAfter : DomainName → List (Record RData) → Record RData → Record RData → Type 0
StandsAfter origin zone r q = ((q ≡ r) × IsAdded zone r) ⊎ (Contains zone q × (¬ (Deletes origin zone r q)))

-- a class that a record of the update section may have (section 3.4.1.1)
abbrev pub HasUpdateClass : Record RData → Type 0
HasUpdateClass r = (r.dns_class ≡ class_in) ⊎ ((r.dns_class ≡ class_any) ⊎ (r.dns_class ≡ class_none))

-- The zone after one record of the update section has the records that stand after it, and no others.
abbrev pub RecordsStandAfter : Type 0
RecordsStandAfter =
    (origin : DomainName) (zone : List (Record RData)) (r q : Record RData) → HasUpdateClass r
    → Contains (after_record false origin zone r) q ↔ StandsAfter origin zone r q
