-- Which numbers and lengths the fields of a record hold (RFC 1035 sections 3.2.1, 3.3 and 3.4; of AAAA RFC 3596
-- section 2.2, of OPT RFC 6891 section 6.1.2, of TSIG RFC 8945 section 4.2), and what else its data have to be, so that
-- a record reads back as itself.
use Rattle.std.specs.Prelude.{◌≢◌, ◌<◌, ◌^◌, [], length}
use Rattle.std.specs.List.{AllByRecursion}
use Rattle.wire_messages.specs.Numbers.{type_a, type_aaaa, type_cname, type_mx, type_ns, type_null, type_opt, type_ptr, type_soa, type_tsig, type_txt}
use Rattle.wire_messages.specs.rr.Addresses.{IsIpv4, IsIpv6}
use Rattle.wire_messages.specs.rr.RecordData.{IsOption}
use Rattle.wire_messages.specs.serialize.layout.NameLayout.{IsFullyQualified}
use Rattle.wire_messages.specs.declared.rr.rdata.RData.{RData}
use Rattle.wire_messages.specs.declared.rr.rdata.RData.TheVariants as rdata
use Rattle.wire_messages.specs.declared.rr.record.Record.{Record}

-- each number of the data is one that its field holds, and each part with a length field of its own fits that
abbrev pub IsInRange : RData → Type 0
IsInRange (rdata.A address) = IsIpv4 address
IsInRange (rdata.AAAA address) = IsIpv6 address
IsInRange (rdata.MX mx) = mx.preference < 2 ^ 16
IsInRange (rdata.SOA soa) = (soa.serial < 2 ^ 32) × (soa.refresh < 2 ^ 32) × (soa.retry < 2 ^ 32) × (soa.expire < 2 ^ 32) × (soa.minimum < 2 ^ 32)
IsInRange (rdata.TXT strings) = AllByRecursion (λ text. length text < 256) strings
IsInRange (rdata.OPT options) = AllByRecursion IsOption options
IsInRange (rdata.TSIG t) = (t.time < 2 ^ 48) × (t.fudge < 2 ^ 16) × (length t.mac < 2 ^ 16) × (t.oid < 2 ^ 16) × (t.error < 2 ^ 16) × (length t.other < 2 ^ 16)
IsInRange (rdata.Update0 code) = code < 2 ^ 16
IsInRange (rdata.Unknown code octets) = code < 2 ^ 16
IsInRange content = Unit {0}

-- each number of a record is one that its field holds, and those of its data are
pub record IsRecordInRange (r : Record RData) : Type 0 where
  pub class : r.dns_class < 2 ^ 16
  pub ttl : r.ttl < 2 ^ 32
  pub rdata : IsInRange r.rdata

-- Names in the data are fully qualified; octets without a form stand only under types that have none; and there are no
-- octets at all only as data of an update, of any type but OPT and TSIG (RFC 2136 section 2.4), or as an OPT without
-- options.
abbrev pub IsReadAsItsType : RData → Type 0
IsReadAsItsType (rdata.NS name) = IsFullyQualified name
IsReadAsItsType (rdata.CNAME name) = IsFullyQualified name
IsReadAsItsType (rdata.PTR name) = IsFullyQualified name
IsReadAsItsType (rdata.MX mx) = IsFullyQualified mx.exchange
IsReadAsItsType (rdata.SOA soa) = IsFullyQualified soa.mname × IsFullyQualified soa.rname
IsReadAsItsType (rdata.TXT strings) = strings ≢ []
IsReadAsItsType (rdata.TSIG t) = IsFullyQualified t.algorithm
IsReadAsItsType (rdata.NULL octets) = octets ≢ []
IsReadAsItsType (rdata.Update0 code) = (code ≢ type_opt) × (code ≢ type_tsig)
IsReadAsItsType (rdata.Unknown code octets) = (octets ≢ []) × (code ≢ type_a) × (code ≢ type_ns) × (code ≢ type_cname) × (code ≢ type_soa) × (code ≢ type_null) × (code ≢ type_ptr) × (code ≢ type_mx) × (code ≢ type_txt) × (code ≢ type_aaaa) × (code ≢ type_opt) × (code ≢ type_tsig)
IsReadAsItsType content = Unit {0}
