-- Which records an update section may have (RFC 2136 sections 2.5 and 3.4.1).
use Rattle.std.specs.Prelude.{ℕ, ◌==◌, ◌&&◌, ◌||◌, Bool, true, false, not, cond, List, Option, Some}
use Rattle.wire_names.specs.rr.domain.DomainName.{DomainName}
use Rattle.wire_messages.specs.Numbers.{class_any, class_in, class_none, code_form_err, code_not_zone, type_any, type_axfr, type_ixfr, type_maila, type_mailb, type_soa}
use Rattle.wire_messages.specs.rr.RecordData.{type_of}
use Rattle.wire_messages.specs.declared.rr.rdata.RData.{RData}
use Rattle.wire_messages.specs.declared.rr.rdata.RData.TheVariants.{SOA, Update0}
use Rattle.wire_messages.specs.declared.rr.record.Record.{Record}
use Rattle.hickory_store.specs.updates.Identity.{is_in_zone}
use Rattle.hickory_store.specs.updates.Prerequisites.{has_no_data}
use Rattle.hickory_store.specs.updates.Refusals.{first_refusal, unless}

-- types of queries but ANY, which no record has (RFC 1035 section 3.2.3, RFC 1995 section 2)
abbrev pub is_query_type : ℕ → Bool
is_query_type record_type = (record_type == type_axfr) || ((record_type == type_maila) || ((record_type == type_mailb) || (record_type == type_ixfr)))

-- data that a zone may hold: they are there, and those of type SOA are the data of an SOA
abbrev pub has_zone_data : Record RData → Bool
has_zone_data r = can_stand r.rdata where
  can_stand : RData → Bool
  can_stand (Update0 record_type) = false
  can_stand (SOA soa) = true
  can_stand other = not (type_of other == type_soa)

-- to be added to an RRset (section 2.5.1): no type ANY or of queries
abbrev pub is_addition : Record RData → Bool
is_addition r = not (type_of r.rdata == type_any) && (not (is_query_type (type_of r.rdata)) && has_zone_data r)

-- of class ANY, to delete an RRset, or with type ANY all RRsets of a name (sections 2.5.2 and 2.5.3)
abbrev pub is_set_deletion : Record RData → Bool
is_set_deletion r = (r.ttl == 0) && (has_no_data r && not (is_query_type (type_of r.rdata)))

-- of class NONE, to delete a record from an RRset (section 2.5.4)
abbrev pub is_record_deletion : Record RData → Bool
is_record_deletion r = (r.ttl == 0) && (not (type_of r.rdata == type_any) && not (is_query_type (type_of r.rdata)))

-- the class says which of these it is: the zone's class, IN, or ANY or NONE; there is no other (section 3.4.1.1)
abbrev pub is_well_formed : Record RData → Bool
is_well_formed r =
    cond (r.dns_class == class_in) (is_addition r)
    (cond (r.dns_class == class_any) (is_set_deletion r)
    (cond (r.dns_class == class_none) (is_record_deletion r) false))

-- the name lies in the zone, and the record is well-formed
abbrev pub update_refusal : DomainName → Record RData → Option ℕ
update_refusal origin r = cond (is_in_zone origin r.name) (unless (is_well_formed r) code_form_err) (Some code_not_zone)

-- the code of the first record that is refused (section 3.4.1.3)
abbrev pub prescan_refusal : DomainName → List (Record RData) → Option ℕ
prescan_refusal origin records = first_refusal (update_refusal origin) records
