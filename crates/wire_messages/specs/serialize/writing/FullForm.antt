-- Records as octets with every name in full (RFC 1035 sections 3.1 and 4.1.3), and how long they are.
use Rattle.std.specs.Prelude.{◌≡◌, ℕ, List, [], ◌∷◌, ◌++◌, Some, None, Result, Ok, Err}
use Rattle.std.specs.List.{flat_map}
use Rattle.std.specs.Int.{w16, to_be_bytes}
use Rattle.std.specs.Net.Addr.{ipv4_octets, ipv6_octets}
use Rattle.wire_names.specs.rr.domain.DomainName.{wire_form, AreLabels}
use Rattle.wire_messages.specs.rr.RecordData.{character_string, option_octets, soa_numbers, tsig_fields}
use Rattle.wire_messages.specs.serialize.layout.RecordLayout.{fixed_fields}
use Rattle.wire_messages.specs.serialize.writing.RecordSize.{data_len, unwritable_reason}
use Rattle.wire_names.specs.declared.error.ProtoError.{ProtoError}
use Rattle.wire_messages.specs.declared.rr.rdata.RData.{RData}
use Rattle.wire_messages.specs.declared.rr.rdata.RData.TheVariants as rdata
use Rattle.wire_messages.specs.declared.rr.rdata.SOA.{SOA}
use Rattle.wire_messages.specs.declared.rr.record.Record.{Record}
use Rattle.wire_messages.specs.declared.rr.tsig.TSIG.{TSIG}

-- a name with its end byte
abbrev pub name_octets : List (List ℕ) → List ℕ
name_octets labels = wire_form labels ++ 0 ∷ []

abbrev pub soa_octets : SOA → List ℕ
soa_octets soa = name_octets soa.mname.labels ++ name_octets soa.rname.labels ++ soa_numbers soa

abbrev pub tsig_octets : TSIG → List ℕ
tsig_octets t = name_octets t.algorithm.labels ++ tsig_fields t

abbrev pub data_octets : RData → List ℕ
data_octets (rdata.A address) = ipv4_octets address
data_octets (rdata.AAAA address) = ipv6_octets address
data_octets (rdata.NS name) = name_octets name.labels
data_octets (rdata.CNAME name) = name_octets name.labels
data_octets (rdata.PTR name) = name_octets name.labels
data_octets (rdata.MX mx) = to_be_bytes w16 mx.preference ++ name_octets mx.exchange.labels
data_octets (rdata.SOA soa) = soa_octets soa
data_octets (rdata.TXT strings) = flat_map character_string strings
data_octets (rdata.OPT options) = flat_map option_octets options
data_octets (rdata.TSIG signature) = tsig_octets signature
data_octets (rdata.NULL octets) = octets
data_octets (rdata.Update0 code) = []
data_octets (rdata.Unknown code octets) = octets

-- owner name, fixed fields and data
abbrev pub record_octets : Record RData → List ℕ
record_octets r = name_octets r.name.labels ++ fixed_fields r (data_len r.rdata) ++ data_octets r.rdata

-- Of a TSIG record the octets end in its data in full: the name of its algorithm is not compressed (RFC 8945 section
-- 4.2).
abbrev pub EndsInFull : RData → List ℕ → Type 0
EndsInFull (rdata.TSIG signature) octets = (front : List ℕ) × (octets ≡ front ++ tsig_octets signature)
EndsInFull content octets = Unit {0}

-- the labels of each name in data are those of a name
abbrev pub HasNames : RData → Type 0
HasNames (rdata.NS name) = AreLabels name.labels
HasNames (rdata.CNAME name) = AreLabels name.labels
HasNames (rdata.PTR name) = AreLabels name.labels
HasNames (rdata.MX mx) = AreLabels mx.exchange.labels
HasNames (rdata.SOA soa) = AreLabels soa.mname.labels × AreLabels soa.rname.labels
HasNames (rdata.TSIG signature) = AreLabels signature.algorithm.labels
HasNames content = Unit {0}

-- how many bytes data take, where they have a form in bytes, or why they have none
abbrev pub HasLength : RData → Result ℕ ProtoError → Type 0
HasLength content (Ok len) = (unwritable_reason content ≡ None) × (len ≡ data_len content)
HasLength content (Err e) = unwritable_reason content ≡ Some e
