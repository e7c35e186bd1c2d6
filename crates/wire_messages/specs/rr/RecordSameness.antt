-- When two records are the same: owner name, class, type and data agree, names in any letter case; the TTL is not
-- compared (RFC 2136 section 1.1, RFC 1035 section 2.3.3).
use Rattle.std.specs.Prelude.{◌≡◌}
use Rattle.wire_names.specs.rr.domain.NameOrder.{lower_name, SameName}
use Rattle.wire_messages.specs.declared.rr.rdata.MX.{MX}
use Rattle.wire_messages.specs.declared.rr.rdata.RData.{RData}
use Rattle.wire_messages.specs.declared.rr.rdata.RData.TheVariants as rdata
use Rattle.wire_messages.specs.declared.rr.rdata.SOA.{SOA}
use Rattle.wire_messages.specs.declared.rr.record.Record.{Record}
use Rattle.wire_messages.specs.declared.rr.tsig.TSIG.{TSIG}

-- data with each name in them in lower case
abbrev pub lower_mx : MX → MX
lower_mx mx = record { preference = mx.preference; exchange = lower_name mx.exchange }

abbrev pub lower_soa : SOA → SOA
lower_soa soa = record { mname = lower_name soa.mname; rname = lower_name soa.rname; serial = soa.serial; refresh = soa.refresh; retry = soa.retry; expire = soa.expire; minimum = soa.minimum }

abbrev pub lower_tsig : TSIG → TSIG
lower_tsig t = record { algorithm = lower_name t.algorithm; time = t.time; fudge = t.fudge; mac = t.mac; oid = t.oid; error = t.error; other = t.other }

abbrev pub lower_data : RData → RData
lower_data (rdata.NS name) = rdata.NS (lower_name name)
lower_data (rdata.CNAME name) = rdata.CNAME (lower_name name)
lower_data (rdata.PTR name) = rdata.PTR (lower_name name)
lower_data (rdata.MX mx) = rdata.MX (lower_mx mx)
lower_data (rdata.SOA soa) = rdata.SOA (lower_soa soa)
lower_data (rdata.TSIG signature) = rdata.TSIG (lower_tsig signature)
lower_data content = content

-- Data are the same: of one type, and letter case in their names aside one and the same.
abbrev pub SameData : RData → RData → Type 0
SameData a b = lower_data a ≡ lower_data b

-- Records are the same.
pub record SameRecord (a b : Record RData) : Type 0 where
  pub name : SameName a.name b.name
  pub class : a.dns_class ≡ b.dns_class
  pub rdata : SameData a.rdata b.rdata
