-- How a resource record stands in the bytes of a message, field after field (RFC 1035 section 4.1.3).
use Rattle.std.specs.Prelude.{◌≡◌, ℕ, ◌+◌, ◌≤◌, ◌<◌, ◌^◌, List, ◌++◌, length}
use Rattle.std.specs.List.{flat_map}
use Rattle.std.specs.Int.{w16, w32, to_be_bytes}
use Rattle.std.specs.Net.Addr.{ipv4_octets, ipv6_octets}
use Rattle.wire_names.specs.serialize.layout.Bytes.{BytesAt}
use Rattle.wire_messages.specs.serialize.layout.FieldRanges.{IsInRange, IsReadAsItsType}
use Rattle.wire_messages.specs.serialize.layout.NameLayout.{NameAt, IsFullyQualified}
use Rattle.wire_messages.specs.rr.RecordData.{character_string, option_octets, OptionsOf, soa_numbers, tsig_fields, type_of}
use Rattle.wire_messages.specs.declared.rr.rdata.MX.{MX}
use Rattle.wire_messages.specs.declared.rr.rdata.SOA.{SOA}
use Rattle.wire_messages.specs.declared.rr.rdata.RData.{RData}
use Rattle.wire_messages.specs.declared.rr.rdata.RData.TheVariants as rdata
use Rattle.wire_messages.specs.declared.rr.record.Proof.TheVariants.{Indeterminate}
use Rattle.wire_messages.specs.declared.rr.record.Record.{Record}
use Rattle.wire_messages.specs.declared.rr.tsig.TSIG.{TSIG}

-- The octets stand at place, at floor or above, and next is the place behind them.
pub record OctetsAt (floor : ℕ) (bytes : List ℕ) (place : ℕ) (octets : List ℕ) (next : ℕ) : Type 0 where
  pub above : floor ≤ place
  pub stands : BytesAt bytes place octets
  pub after : next ≡ place + length octets

-- preference and exchange (RFC 1035 section 3.3.9)
pub record MxAt (floor : ℕ) (bytes : List ℕ) (place : ℕ) (mx : MX) (next : ℕ) : Type 0 where
  pub middle : ℕ
  pub preference : OctetsAt floor bytes place (to_be_bytes w16 mx.preference) middle
  pub exchange : NameAt floor bytes middle mx.exchange next

-- both names, and the five numbers (RFC 1035 section 3.3.13)
pub record SoaAt (floor : ℕ) (bytes : List ℕ) (place : ℕ) (soa : SOA) (next : ℕ) : Type 0 where
  pub one : ℕ
  pub two : ℕ
  pub mname : NameAt floor bytes place soa.mname one
  pub rname : NameAt floor bytes one soa.rname two
  pub numbers : OctetsAt floor bytes two (soa_numbers soa) next

-- the algorithm's name, and the other fields (RFC 8945 section 4.2)
pub record TsigAt (floor : ℕ) (bytes : List ℕ) (place : ℕ) (signature : TSIG) (next : ℕ) : Type 0 where
  pub middle : ℕ
  pub algorithm : NameAt floor bytes place signature.algorithm middle
  pub fields : OctetsAt floor bytes middle (tsig_fields signature) next

-- Data stand at place in the form of their type, each name in them as names stand, and next is the place behind them.
abbrev pub DataAt : ℕ → List ℕ → ℕ → RData → ℕ → Type 0
DataAt floor bytes place (rdata.A address) next = OctetsAt floor bytes place (ipv4_octets address) next
DataAt floor bytes place (rdata.AAAA address) next = OctetsAt floor bytes place (ipv6_octets address) next
DataAt floor bytes place (rdata.NS name) next = NameAt floor bytes place name next
DataAt floor bytes place (rdata.CNAME name) next = NameAt floor bytes place name next
DataAt floor bytes place (rdata.PTR name) next = NameAt floor bytes place name next
DataAt floor bytes place (rdata.MX mx) next = MxAt floor bytes place mx next
DataAt floor bytes place (rdata.SOA soa) next = SoaAt floor bytes place soa next
DataAt floor bytes place (rdata.TXT strings) next = OctetsAt floor bytes place (flat_map character_string strings) next
DataAt floor bytes place (rdata.OPT options) next = OctetsAt floor bytes place (flat_map option_octets options) next
DataAt floor bytes place (rdata.TSIG signature) next = TsigAt floor bytes place signature next
DataAt floor bytes place (rdata.NULL octets) next = OctetsAt floor bytes place octets next
DataAt floor bytes place (rdata.Update0 code) next = next ≡ place
DataAt floor bytes place (rdata.Unknown code octets) next = OctetsAt floor bytes place octets next

-- type, class, TTL and the length of the data
abbrev pub fixed_fields : Record RData → ℕ → List ℕ
fixed_fields r len = to_be_bytes w16 (type_of r.rdata) ++ to_be_bytes w16 r.dns_class ++ to_be_bytes w32 r.ttl ++ to_be_bytes w16 len

-- The record stands at place, and next is the place behind it: its owner name, its fixed fields, and its data, which
-- reach as far as the length in the fixed fields says. No byte that is read for it lies below floor.
pub record FormAt (floor : ℕ) (bytes : List ℕ) (place : ℕ) (r : Record RData) (next : ℕ) : Type 0 where
  pub middle : ℕ
  pub len : ℕ
  pub owner : NameAt floor bytes place r.name middle
  pub fixed : BytesAt bytes middle (fixed_fields r len)
  pub small : len < 2 ^ 16
  pub rdata : DataAt floor bytes (middle + 10) r.rdata next
  pub counted : next ≡ middle + 10 + len

-- Data that the form of their type reads as themselves where they stand: each number in its range, names fully
-- qualified, octets without a form only for types that have none, and no octets at all only as data of an update, of
-- any type but OPT and TSIG, or as an OPT without options.
abbrev pub IsFormed : RData → Type 0
IsFormed content = IsInRange content × IsReadAsItsType content

-- A record whose numbers, names and octets are such as are read. It reads back as itself where its octets keep their
-- lengths too.
pub record IsFormedRecord (r : Record RData) : Type 0 where
  pub name : IsFullyQualified r.name
  pub class : r.dns_class < 2 ^ 16
  pub ttl : r.ttl < 2 ^ 32
  pub rdata : IsFormed r.rdata
  pub proof : r.proof ≡ Indeterminate

-- The data that are read at place, of so many octets: an OPT record's are its octets first and its options then, where
-- octets that are not made of options read as none (a rule of this library: RFC 6891 section 7 would let a server
-- answer FORMERR); all others stand there in their form.
abbrev pub DataRead : List ℕ → ℕ → RData → ℕ → Type 0
DataRead bytes place (rdata.OPT options) next = (octets : List ℕ) × OctetsAt 0 bytes place octets next × OptionsOf octets options
DataRead bytes place content next = DataAt 0 bytes place content next × IsFormed content

-- The record that is read at place, and next is the place behind it. Nothing is known of its proof.
pub record RecordAt (bytes : List ℕ) (place : ℕ) (r : Record RData) (next : ℕ) : Type 0 where
  pub middle : ℕ
  pub len : ℕ
  pub owner : NameAt 0 bytes place r.name middle
  pub name : IsFullyQualified r.name
  pub fixed : BytesAt bytes middle (fixed_fields r len)
  pub class : r.dns_class < 2 ^ 16
  pub ttl : r.ttl < 2 ^ 32
  pub small : len < 2 ^ 16
  pub rdata : DataRead bytes (middle + 10) r.rdata next
  pub counted : next ≡ middle + 10 + len
  pub within : next ≤ length bytes
  pub proof : r.proof ≡ Indeterminate
