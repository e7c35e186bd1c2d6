-- What the update section does to the records of a zone (RFC 2136 section 3.4.2). ZCLASS is IN, and ZNAME the zone's
-- origin; an Update RR is a record of the update section, and a Zone RR one of the zone.
--
-- `by_rfc` says which rules are followed where the Rust crate hickory-server differs from the RFCs: true the RFCs,
-- false the crate.
use Rattle.std.specs.Prelude.{ℕ, ◌==◌, ◌^◌, ◌&&◌, ◌||◌, nat_le, Bool, false, not, cond, List, [], ◌∷◌, ◌++◌, filter, map, Option, Some, None}
use Rattle.std.specs.List.{list_any}
use Rattle.wire_names.specs.rr.domain.DomainName.{DomainName}
use Rattle.wire_messages.specs.Numbers.{class_any, class_in, type_any, type_cname, type_ns, type_soa}
use Rattle.wire_messages.specs.rr.RecordData.{type_of}
use Rattle.wire_messages.specs.declared.rr.rdata.RData.{RData}
use Rattle.wire_messages.specs.declared.rr.rdata.RData.TheVariants as rdata
use Rattle.wire_messages.specs.declared.rr.record.Record.{Record}
use Rattle.hickory_base.specs.zone_store.Serials.{is_greater}
use Rattle.hickory_base.specs.zone_store.ZoneRecords.{is_at}
use Rattle.hickory_store.specs.updates.Identity.{same_record, ttl_at}

-- the record is of this type
abbrev pub is_type : ℕ → Record RData → Bool
is_type record_type q = type_of q.rdata == record_type

-- q is of the RRset of r: it has the owner name and the type of r
abbrev pub in_rrset : Record RData → Record RData → Bool
in_rrset r q = is_at r.name q && is_type (type_of r.rdata) q

-- the SOA is newer than the other
abbrev pub is_newer : RData → RData → Bool
is_newer (rdata.SOA soa) (rdata.SOA other) = is_greater soa.serial other.serial
is_newer _ _ = false

-- The record r, which would be added, is ignored: "If the TYPE is SOA and there is no Zone SOA RR, or the new
-- SOA.SERIAL is lower (according to [RFC1982]) than or equal to the current Zone SOA RR's SOA.SERIAL, the Update RR is
-- ignored. In the case of a CNAME Update RR and a non-CNAME Zone RRset or vice versa, ignore the CNAME Update RR,
-- otherwise replace the CNAME Zone RR with the CNAME Update RR." (section 3.4.2.2) Vice versa, where the name has a
-- CNAME, the record of another type is what is ignored, as in the pseudocode of section 3.4.2.7.
abbrev pub is_ignored : List (Record RData) → Record RData → Bool
is_ignored zone r =
    cond (is_type type_cname r)
    (list_any (λ q. is_at r.name q && not (is_type type_cname q)) zone)
    (list_any (λ q. is_at r.name q && is_type type_cname q) zone
    || (is_type type_soa r && (not (list_any (in_rrset r) zone) || list_any (λ q. in_rrset r q && not (is_newer r.rdata q.rdata)) zone)))

-- A CNAME or an SOA that is added replaces its RRset, and any other record the one that is the same: "In case of
-- duplicate RDATAs (which for SOA RRs is always the case, and for WKS RRs is the case if the ADDRESS and PROTOCOL
-- fields both match), the Zone RR is replaced by Update RR." (section 3.4.2.2) WKS has no case of its own here.
abbrev pub replaces_rrset : Record RData → Bool
replaces_rrset r = is_type type_cname r || is_type type_soa r

abbrev pub has_ttl : ℕ → Option ℕ → Bool
has_ttl ttl None = false
has_ttl ttl (Some other) = other == ttl

-- The RRset of r has a record with another TTL than r.
abbrev pub has_other_ttl : List (Record RData) → Record RData → Bool
has_other_ttl zone r = list_any (λ q. in_rrset r q && not (has_ttl r.ttl (ttl_at zone q))) zone

-- The record r, were it added, would leave the zone as it is: the zone has it with its TTL, and has no other record
-- that it would replace. By the RFCs r gives its TTL to its whole RRset, so no record of that has another TTL.
abbrev pub adds_nothing_new : Bool → List (Record RData) → Record RData → Bool
adds_nothing_new by_rfc zone r =
    has_ttl r.ttl (ttl_at zone r)
    && (not (replaces_rrset r && list_any (λ q. in_rrset r q && not (same_record r q)) zone) && not (by_rfc && has_other_ttl zone r))

-- The record r is added: "Any Update RR whose CLASS is the same as ZCLASS is added to the zone." (section 3.4.2.2) But
-- not where it is ignored, and not where it adds nothing new.
abbrev pub is_added : Bool → List (Record RData) → Record RData → Bool
is_added by_rfc zone r = (r.dns_class == class_in) && (not (is_ignored zone r) && not (adds_nothing_new by_rfc zone r))

-- the record of the zone that r, of class NONE, is to delete
abbrev pub in_class : Record RData → Record RData
in_class r = record r { dns_class = class_in }

-- The record r, of class NONE, is ignored: "For any Update RR whose class is NONE, any Zone RR whose NAME, TYPE, RDATA
-- and RDLENGTH are equal to the Update RR is deleted, unless the NAME is the same as ZNAME and either the TYPE is SOA
-- or the TYPE is NS and the matching Zone RR is the only NS remaining in the RRset, in which case this Update RR is
-- ignored." (section 3.4.2.4) By the RFCs that holds only at ZNAME, and so the last NS of a delegation is deleted. The
-- crate has it at any name, as in the pseudocode of section 3.4.2.7.
abbrev pub is_spared : Bool → DomainName → List (Record RData) → Record RData → Bool
is_spared by_rfc origin zone r =
    (not by_rfc || is_at origin r)
    && (is_type type_soa r || (is_type type_ns r && not (list_any (λ q. in_rrset r q && not (same_record (in_class r) q)) zone)))

-- The record r, of class ANY, deletes q. All RRsets of a name: "For any Update RR whose CLASS is ANY and whose TYPE is
-- ANY, all Zone RRs with the same NAME are deleted, unless the NAME is the same as ZNAME in which case only those RRs
-- whose TYPE is other than SOA or NS are deleted." An RRset: "For any Update RR whose CLASS is ANY and whose TYPE is
-- not ANY all Zone RRs with the same NAME and TYPE are deleted, unless the NAME is the same as ZNAME in which case
-- neither SOA or NS RRs will be deleted." (section 3.4.2.3)
abbrev pub is_in_deleted_rrsets : DomainName → Record RData → Record RData → Bool
is_in_deleted_rrsets origin r q =
    is_at r.name q
    && ((is_type type_any r || is_type (type_of r.rdata) q) && not (is_at origin q && (is_type type_soa q || is_type type_ns q)))

-- The record r deletes q, where it is settled whether r is added and whether r, of class NONE, is ignored. One that is
-- added deletes what it replaces (section 3.4.2.2).
abbrev pub is_deleted_when : DomainName → Record RData → Bool → Bool → Record RData → Bool
is_deleted_when origin r added spared q =
    cond (r.dns_class == class_in)
    (added && cond (replaces_rrset r) (in_rrset r q) (same_record r q))
    (cond (r.dns_class == class_any) (is_in_deleted_rrsets origin r q) (not spared && same_record (in_class r) q))

-- The TTL of r as it counts. By the RFCs one of 2^31 or more counts as 0: "Implementations should treat TTL values
-- received with the most significant bit set as if the entire value received was zero." (RFC 2181 section 8)
abbrev pub counted : Bool → Record RData → Record RData
counted by_rfc r = cond (by_rfc && nat_le (2 ^ 31) r.ttl) (record r { ttl = 0 }) r

-- The records, of which those of the RRset of r have its TTL: "Consequently the TTLs of all RRs in an RRSet must be the
-- same." (RFC 2181 section 5.2)
abbrev pub one_ttl : Record RData → List (Record RData) → List (Record RData)
one_ttl r records = map (λ q. cond (in_rrset r q) (record q { ttl = r.ttl }) q) records

-- the zone without the records that r deletes, and after them r, if it is added; by the RFCs its RRset then has its TTL
abbrev pub after_record_when : Bool → DomainName → List (Record RData) → Record RData → Bool → Bool → List (Record RData)
after_record_when by_rfc origin zone r added spared =
    let records = filter (λ q. not (is_deleted_when origin r added spared q)) zone ++ cond added (r ∷ []) [] in
    cond (by_rfc && added) (one_ttl r records) records

-- the zone after one record of the update section, whose TTL counts
abbrev pub after_counted : Bool → DomainName → List (Record RData) → Record RData → List (Record RData)
after_counted by_rfc origin zone r = after_record_when by_rfc origin zone r (is_added by_rfc zone r) (is_spared by_rfc origin zone r)

-- the zone after one record of the update section
unfoldable pub after_record : Bool → DomainName → List (Record RData) → Record RData → List (Record RData)
after_record by_rfc origin zone r = after_counted by_rfc origin zone (counted by_rfc r)

-- the record r deletes q from the zone
abbrev pub is_deleted : Bool → DomainName → List (Record RData) → Record RData → Record RData → Bool
is_deleted by_rfc origin zone r q = is_deleted_when origin r (is_added by_rfc zone r) (is_spared by_rfc origin zone r) q

-- a record whose TTL counts changes the zone: it deletes one of its records, or is added
abbrev pub counted_changes : Bool → DomainName → List (Record RData) → Record RData → Bool
counted_changes by_rfc origin zone r = list_any (is_deleted by_rfc origin zone r) zone || is_added by_rfc zone r

-- one record of the update section changes the zone
unfoldable pub changes : Bool → DomainName → List (Record RData) → Record RData → Bool
changes by_rfc origin zone r = counted_changes by_rfc origin zone (counted by_rfc r)

-- The zone after the update section: "The Update Section is parsed into RRs and these RRs are processed in order."
-- (section 3.4.2)
abbrev pub after_updates : Bool → DomainName → List (Record RData) → List (Record RData) → List (Record RData)
after_updates by_rfc origin zone [] = zone
after_updates by_rfc origin zone (r ∷ rs) = after_updates by_rfc origin (after_record by_rfc origin zone r) rs

-- one of its records changes the zone as those before it left it
abbrev pub any_change : Bool → DomainName → List (Record RData) → List (Record RData) → Bool
any_change by_rfc origin zone [] = false
any_change by_rfc origin zone (r ∷ rs) = changes by_rfc origin zone r || any_change by_rfc origin (after_record by_rfc origin zone r) rs
