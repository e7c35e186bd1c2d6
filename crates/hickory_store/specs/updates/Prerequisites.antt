-- What an update requires of a zone (RFC 2136 sections 2.4 and 3.2).
use Rattle.std.specs.Prelude.{ℕ, ◌==◌, ◌&&◌, Bool, true, false, not, cond, List, [], filter, Option, Some}
use Rattle.std.specs.List.{list_all, list_any}
use Rattle.std.specs.Option.{option_or}
use Rattle.wire_names.specs.rr.domain.DomainName.{DomainName}
use Rattle.wire_messages.specs.Numbers.{class_any, class_in, class_none, code_form_err, code_not_zone, code_nx_domain, code_nx_rrset, code_yx_domain, code_yx_rrset, type_any}
use Rattle.wire_messages.specs.rr.RecordData.{type_of}
use Rattle.wire_messages.specs.declared.rr.rdata.RData.{RData}
use Rattle.wire_messages.specs.declared.rr.rdata.RData.TheVariants.{NULL, Update0}
use Rattle.wire_messages.specs.declared.rr.record.Record.{Record}
use Rattle.hickory_base.specs.zone_store.ZoneRecords.{is_at, is_of, rrset}
use Rattle.hickory_store.specs.updates.Identity.{is_in_zone, same_record}
use Rattle.hickory_store.specs.updates.Refusals.{first_refusal, unless}

-- no data at all, as a record of an update has them whose RDLENGTH is 0 (an OPT without options, a TXT without strings
-- and unknown data of no bytes are data)
abbrev pub has_no_data : Record RData → Bool
has_no_data r = is_empty r.rdata where
  is_empty : RData → Bool
  is_empty (Update0 record_type) = true
  is_empty (NULL []) = true
  is_empty other = false

-- The name has at least one record (section 2.4.4).
abbrev pub name_is_in_use : List (Record RData) → DomainName → Bool
name_is_in_use zone name = list_any (is_at name) zone

-- At least one record has the name and type (section 2.4.1).
abbrev pub rrset_exists : List (Record RData) → DomainName → ℕ → Bool
rrset_exists zone name record_type = list_any (is_of name record_type) zone

-- Two RRsets have the same records: each record of one is in the other, and TTLs do not count (section 2.4.2).
abbrev pub same_rrset : List (Record RData) → List (Record RData) → Bool
same_rrset records others = list_all (λ r. list_any (same_record r) others) records && list_all (λ q. list_any (same_record q) records) others

-- class ANY: the name is in use (type ANY, section 2.4.4), or the RRset exists, value independent (section 2.4.1)
abbrev pub existence_refusal : List (Record RData) → Record RData → Option ℕ
existence_refusal zone r =
    cond (type_of r.rdata == type_any)
    (unless (name_is_in_use zone r.name) code_nx_domain)
    (unless (rrset_exists zone r.name (type_of r.rdata)) code_nx_rrset)

-- class NONE: the name is not in use (type ANY, section 2.4.5), or the RRset does not exist (section 2.4.3)
abbrev pub absence_refusal : List (Record RData) → Record RData → Option ℕ
absence_refusal zone r =
    cond (type_of r.rdata == type_any)
    (unless (not (name_is_in_use zone r.name)) code_yx_domain)
    (unless (not (rrset_exists zone r.name (type_of r.rdata))) code_yx_rrset)

-- the test of a record by its class: a record of the zone's class, IN, is collected, and any other class is a format
-- error (section 3.2.5)
abbrev pub class_refusal : List (Record RData) → Record RData → Option ℕ
class_refusal zone r =
    cond (r.dns_class == class_any) (cond (has_no_data r) (existence_refusal zone r) (Some code_form_err))
    (cond (r.dns_class == class_none) (cond (has_no_data r) (absence_refusal zone r) (Some code_form_err))
    (unless (r.dns_class == class_in) code_form_err))

-- a TTL but 0 is a format error, and the name lies in the zone
abbrev pub prerequisite_refusal : DomainName → List (Record RData) → Record RData → Option ℕ
prerequisite_refusal origin zone r =
    cond (r.ttl == 0) (cond (is_in_zone origin r.name) (class_refusal zone r) (Some code_not_zone)) (Some code_form_err)

-- the records of the RRsets that shall exist, value dependent (section 2.4.2)
abbrev pub collected : List (Record RData) → List (Record RData)
collected records = filter (λ r. r.dns_class == class_in) records

-- Each RRset that was collected is the zone's RRset of its name and type.
abbrev pub sets_match : List (Record RData) → List (Record RData) → Bool
sets_match zone required = list_all (λ r. same_rrset (rrset required r.name (type_of r.rdata)) (rrset zone r.name (type_of r.rdata))) required

-- the records one by one, and in the end the sets that were collected (section 3.2.5)
abbrev pub prerequisite_section_refusal : DomainName → List (Record RData) → List (Record RData) → Option ℕ
prerequisite_section_refusal origin zone records =
    option_or (first_refusal (prerequisite_refusal origin zone) records) (unless (sets_match zone (collected records)) code_nx_rrset)
