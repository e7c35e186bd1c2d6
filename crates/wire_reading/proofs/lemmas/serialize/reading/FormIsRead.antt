-- A record that stands in its form is the one that is read.
use Rattle.std.proofs.Common.{◌≡◌, ℕ, ◌+◌, ◌*◌, ◌/◌, ◌%◌, ◌^◌, ◌<◌, ◌≤◌, List, [], ◌∷◌, ◌++◌, length, drop, Bool, true, false, not, ◌&&◌, ltb, eqb, Ok, refl, sym, ap, subst, arith, length-append, append_assoc}
use Rattle.std.specs.List.{flat_map}
use Rattle.std.specs.Int.{w16, w32, to_be_bytes}
use Rattle.std.proofs.lemmas.Bool.{le-ltb, eq-eqb, ne_eqb}
use Rattle.std.proofs.lemmas.List.{length-drop}
use Rattle.std.proofs.lemmas.Nat.{div-add-mod', div_below, mod_below}
use Rattle.std.specs.Net.Addr.{ipv6_octets}
use Rattle.std.specs.declared.net.ipv6_addr.Ipv6Addr.{Ipv6Addr}
use Rattle.wire_messages.specs.rr.Addresses.{ipv6_of, IsIpv6}
use Rattle.wire_names.specs.serialize.layout.Bytes.{BytesAt}
use Rattle.wire_names.specs.rr.domain.DomainName.{DomainName}
use Rattle.wire_messages.specs.serialize.layout.NameLayout.{NameAt, IsFullyQualified}
use Rattle.wire_messages.specs.serialize.reading.NameReading.{name}
use Rattle.wire_messages.specs.serialize.reading.Reading.{◌>>=◌, octets}
use Rattle.wire_messages.specs.rr.RecordData.{character_string, option_octets, type_of}
use Rattle.wire_messages.specs.serialize.layout.RecordLayout.{OctetsAt, MxAt, SoaAt, TsigAt, DataAt, fixed_fields, FormAt, IsFormed, IsFormedRecord}
use Rattle.wire_messages.specs.serialize.reading.RecordReading.{soa, mx, tsig, form, record_data, resource}
use Rattle.wire_messages.specs.declared.op.edns.EdnsOption.{EdnsOption}
use Rattle.wire_messages.specs.declared.rr.rdata.MX.{MX}
use Rattle.wire_messages.specs.declared.rr.rdata.SOA.{SOA}
use Rattle.wire_messages.specs.declared.rr.rdata.RData.{RData}
use Rattle.wire_messages.specs.declared.rr.rdata.RData.TheVariants as rdata
use Rattle.wire_messages.specs.declared.rr.record.Proof.TheVariants.{Indeterminate}
use Rattle.wire_messages.specs.declared.rr.record.Record.{Record}
use Rattle.wire_messages.specs.declared.rr.tsig.TSIG.{TSIG}
use Rattle.wire_messages.proofs.lemmas.rr.AddressOctets.{segments_again, octets_len}
use Rattle.wire_messages.proofs.lemmas.serialize.layout.ByteTexts.{here, read_here, BytesAt-left, BytesAt-right, number16_here, number32_here, octets_here, strings_here, counted_here}
use Rattle.wire_messages.proofs.lemmas.serialize.layout.FormKeeps.{LabelsAt-longer}
use Rattle.wire_reading.proofs.lemmas.serialize.reading.NameLaws.{found_name}
use Rattle.wire_reading.proofs.lemmas.serialize.reading.OptionSteps.{options_again}

-- ---- the forms of data

-- a name that stands is read
pub name_here : (floor : ℕ) (bytes : List ℕ) (place next : ℕ) (n : DomainName) → IsFullyQualified n → NameAt floor bytes place n next → name (here bytes place) ≡ read_here n bytes next
name_here floor bytes place next n marked at = found_name floor (here bytes place) n next marked at

-- a mail exchange that stands is read
pub mx_here : (floor : ℕ) (bytes : List ℕ) (place next : ℕ) (m : MX) → IsFormed (rdata.MX m) → MxAt floor bytes place m next → mx (here bytes place) ≡ read_here (rdata.MX m) bytes next
unfolding mx
mx_here floor bytes place next m f at =
    rw (number16_here bytes place at.middle m.preference f.0 at.preference.stands at.preference.after, name_here floor bytes at.middle next m.exchange f.1 at.exchange) refl

-- the start of a zone that stands is read
pub soa_here : (floor : ℕ) (bytes : List ℕ) (place next : ℕ) (s : SOA) → IsFormed (rdata.SOA s) → SoaAt floor bytes place s next → soa (here bytes place) ≡ read_here (rdata.SOA s) bytes next
unfolding soa
soa_here floor bytes place next s f at =
    let two = at.two in
    let s1 = at.numbers.stands in
    let s2 = BytesAt-right bytes two (to_be_bytes w32 s.serial) (to_be_bytes w32 s.refresh ++ to_be_bytes w32 s.retry ++ to_be_bytes w32 s.expire ++ to_be_bytes w32 s.minimum) s1 in
    let s3 = BytesAt-right bytes (two + 4) (to_be_bytes w32 s.refresh) (to_be_bytes w32 s.retry ++ to_be_bytes w32 s.expire ++ to_be_bytes w32 s.minimum) s2 in
    let s4 = BytesAt-right bytes (two + 4 + 4) (to_be_bytes w32 s.retry) (to_be_bytes w32 s.expire ++ to_be_bytes w32 s.minimum) s3 in
    let s5 = BytesAt-right bytes (two + 4 + 4 + 4) (to_be_bytes w32 s.expire) (to_be_bytes w32 s.minimum) s4 in
    let n1 = number32_here bytes two (two + 4) s.serial f.0.0 (BytesAt-left bytes two (to_be_bytes w32 s.serial) (to_be_bytes w32 s.refresh ++ to_be_bytes w32 s.retry ++ to_be_bytes w32 s.expire ++ to_be_bytes w32 s.minimum) s1) refl in
    let n2 = number32_here bytes (two + 4) (two + 4 + 4) s.refresh f.0.1 (BytesAt-left bytes (two + 4) (to_be_bytes w32 s.refresh) (to_be_bytes w32 s.retry ++ to_be_bytes w32 s.expire ++ to_be_bytes w32 s.minimum) s2) refl in
    let n3 = number32_here bytes (two + 4 + 4) (two + 4 + 4 + 4) s.retry f.0.2 (BytesAt-left bytes (two + 4 + 4) (to_be_bytes w32 s.retry) (to_be_bytes w32 s.expire ++ to_be_bytes w32 s.minimum) s3) refl in
    let n4 = number32_here bytes (two + 4 + 4 + 4) (two + 4 + 4 + 4 + 4) s.expire f.0.3 (BytesAt-left bytes (two + 4 + 4 + 4) (to_be_bytes w32 s.expire) (to_be_bytes w32 s.minimum) s4) refl in
    let n5 = number32_here bytes (two + 4 + 4 + 4 + 4) next s.minimum f.0.4 s5 (omega (arith, at.numbers.after)) in
    rw (name_here floor bytes place at.one s.mname f.1.0 at.mname, name_here floor bytes at.one two s.rname f.1.1 at.rname, n1, n2, n3, n4, n5) refl

-- ---- a signature

-- the fields of a signature one by one, each behind the one before it
pub record Fields (bytes : List ℕ) (place : ℕ) (a b c d mac e f g other : List ℕ) : Type 0 where
  pub one : BytesAt bytes place a
  pub two : BytesAt bytes (place + length a) b
  pub three : BytesAt bytes (place + length a + length b) c
  pub four : BytesAt bytes (place + length a + length b + length c) d
  pub five : BytesAt bytes (place + length a + length b + length c + length d) mac
  pub six : BytesAt bytes (place + length a + length b + length c + length d + length mac) e
  pub seven : BytesAt bytes (place + length a + length b + length c + length d + length mac + length e) f
  pub eight : BytesAt bytes (place + length a + length b + length c + length d + length mac + length e + length f) g
  pub nine : BytesAt bytes (place + length a + length b + length c + length d + length mac + length e + length f + length g) other

-- the same octets, grouped from the right
nested : (a b c d mac e f g other : List ℕ) → a ++ b ++ c ++ d ++ mac ++ e ++ f ++ g ++ other ≡ a ++ (b ++ (c ++ (d ++ (mac ++ (e ++ (f ++ (g ++ other)))))))
nested a b c d mac e f g other = simp append_assoc

-- fields that stand as one stand one behind the other
fields_of : (bytes : List ℕ) (place : ℕ) (a b c d mac e f g other : List ℕ) → BytesAt bytes place (a ++ b ++ c ++ d ++ mac ++ e ++ f ++ g ++ other) → Fields bytes place a b c d mac e f g other
fields_of bytes place a b c d mac e f g other at =
    let s1 = subst (λ (t : List ℕ). BytesAt bytes place t) (nested a b c d mac e f g other) at in
    let s2 = BytesAt-right bytes place a _ s1 in
    let s3 = BytesAt-right bytes (place + length a) b _ s2 in
    let s4 = BytesAt-right bytes (place + length a + length b) c _ s3 in
    let s5 = BytesAt-right bytes (place + length a + length b + length c) d _ s4 in
    let s6 = BytesAt-right bytes (place + length a + length b + length c + length d) mac _ s5 in
    let s7 = BytesAt-right bytes (place + length a + length b + length c + length d + length mac) e _ s6 in
    let s8 = BytesAt-right bytes (place + length a + length b + length c + length d + length mac + length e) f _ s7 in
    record {
      one = BytesAt-left bytes place a _ s1;
      two = BytesAt-left bytes (place + length a) b _ s2;
      three = BytesAt-left bytes (place + length a + length b) c _ s3;
      four = BytesAt-left bytes (place + length a + length b + length c) d _ s4;
      five = BytesAt-left bytes (place + length a + length b + length c + length d) mac _ s5;
      six = BytesAt-left bytes (place + length a + length b + length c + length d + length mac) e _ s6;
      seven = BytesAt-left bytes (place + length a + length b + length c + length d + length mac + length e) f _ s7;
      eight = BytesAt-left bytes (place + length a + length b + length c + length d + length mac + length e + length f) g _ s8;
      nine = BytesAt-right bytes (place + length a + length b + length c + length d + length mac + length e + length f) g other s8;
    }

-- how many octets the fields have
fields_len : (a b c d mac e f g other : List ℕ) → length (a ++ b ++ c ++ d ++ mac ++ e ++ f ++ g ++ other) ≡ length a + length b + length c + length d + length mac + length e + length f + length g + length other
fields_len a b c d mac e f g other = simp length-append

-- a signature that stands is read
pub tsig_here : (floor : ℕ) (bytes : List ℕ) (place next : ℕ) (t : TSIG) → IsFormed (rdata.TSIG t) → TsigAt floor bytes place t next → tsig (here bytes place) ≡ read_here (rdata.TSIG t) bytes next
unfolding tsig
tsig_here floor bytes place next t f at =
    let m = at.middle in
    let high = t.time / 2 ^ 32 in
    let low = t.time % 2 ^ 32 in
    let len = fields_len (to_be_bytes w16 high) (to_be_bytes w32 low) (to_be_bytes w16 t.fudge) (to_be_bytes w16 (length t.mac)) t.mac (to_be_bytes w16 t.oid) (to_be_bytes w16 t.error) (to_be_bytes w16 (length t.other)) t.other in
    let s = fields_of bytes m (to_be_bytes w16 high) (to_be_bytes w32 low) (to_be_bytes w16 t.fudge) (to_be_bytes w16 (length t.mac)) t.mac (to_be_bytes w16 t.oid) (to_be_bytes w16 t.error) (to_be_bytes w16 (length t.other)) t.other at.fields.stands in
    let n1 = number16_here bytes m (m + 2) high (div_below t.time (2 ^ 32) (2 ^ 16) (omega arith) f.0.0) s.one refl in
    let n2 = number32_here bytes (m + 2) (m + 2 + 4) low (mod_below t.time (2 ^ 32) (omega arith)) s.two refl in
    let n3 = number16_here bytes (m + 2 + 4) (m + 2 + 4 + 2) t.fudge f.0.1 s.three refl in
    let n4 = counted_here bytes (m + 2 + 4 + 2) (m + 2 + 4 + 2 + 2 + length t.mac) t.mac f.0.2 s.four s.five refl in
    let p = m + 2 + 4 + 2 + 2 + length t.mac in
    let n5 = number16_here bytes p (p + 2) t.oid f.0.3 s.six refl in
    let n6 = number16_here bytes (p + 2) (p + 2 + 2) t.error f.0.4 s.seven refl in
    let n7 = counted_here bytes (p + 2 + 2) next t.other f.0.5 s.eight s.nine (omega (arith, at.fields.after)) in
    let time : high * 2 ^ 32 + low ≡ t.time = div-add-mod' t.time (2 ^ 32) in
    rw (name_here floor bytes place m t.algorithm f.1 at.algorithm, n1, n2, n3, n4, n5, n6, n7)
    (ap (λ (n : ℕ). let d : TSIG = record t { time = n } in read_here (rdata.TSIG d) bytes next) time)

-- ---- data with their length

-- data that the form of their type reads end where their length says
pub by_form : (kind len : ℕ) (bytes : List ℕ) (place next : ℕ) (d : RData) → form kind len (here bytes place) ≡ read_here d bytes next → next ≡ place + len → next ≤ length bytes
    → (eqb len 0 && not (eqb kind 41) && not (eqb kind 250)) ≡ false → (eqb len 0 && eqb kind 250) ≡ false → record_data kind len (here bytes place) ≡ read_here d bytes next
unfolding record_data
by_form kind len bytes place next d e after within used signed =
    let long : ltb (length (drop place bytes)) len ≡ false = le-ltb _ _ (omega (arith, length-drop place bytes)) in
    rw (long, used, signed, e, eq-eqb next (place + len) after) refl

-- an OPT record may have no octets
pub opt_is_used : (b : Bool) → ((b && not (eqb 41 41) && not (eqb 41 250)) ≡ false) × ((b && eqb 41 250) ≡ false)
opt_is_used true = (refl, refl)
opt_is_used false = (refl, refl)

-- data of at least a byte are not those of an update
some : (len kind : ℕ) → 0 < len → ((eqb len 0 && not (eqb kind 41) && not (eqb kind 250)) ≡ false) × ((eqb len 0 && eqb kind 250) ≡ false)
some len kind lt = let e = ne_eqb len 0 (λ h. omega arith) in (rw e refl, rw e refl)

-- data of at least a byte
some_data : (kind len : ℕ) (bytes : List ℕ) (place next : ℕ) (d : RData) → form kind len (here bytes place) ≡ read_here d bytes next → next ≡ place + len → next ≤ length bytes → place < next → record_data kind len (here bytes place) ≡ read_here d bytes next
some_data kind len bytes place next d e after within lt = let s = some len kind (omega arith) in by_form kind len bytes place next d e after within s.0 s.1

-- an IPv6 address that stands is read
pub aaaa_here : (floor : ℕ) (bytes : List ℕ) (place next : ℕ) (address : Ipv6Addr) → IsIpv6 address → OctetsAt floor bytes place (ipv6_octets address) next
    → (octets 16 (here bytes place) >>= λ x. Ok (rdata.AAAA (ipv6_of x.0), x.1)) ≡ read_here (rdata.AAAA address) bytes next
aaaa_here floor bytes place next address f at =
    let size = octets_len address.segments in
    rw (octets_here bytes place next 16 (ipv6_octets address) at.stands (omega (arith, f.eight)) (omega (arith, at.after, f.eight)))
    (ap (λ (s : List ℕ). let a : Ipv6Addr = record { segments = s } in read_here (rdata.AAAA a) bytes next) (segments_again address.segments))

-- what stands in the form of its type is read, whatever the type
pub data_here : (floor : ℕ) (bytes : List ℕ) (place len next : ℕ) (d : RData) → place ≤ length bytes → IsFormed d → DataAt floor bytes place d next → next ≡ place + len → record_data (type_of d) len (here bytes place) ≡ read_here d bytes next
unfolding record_data form
data_here floor bytes place len next (rdata.A a) in_range f at after =
    some_data 1 len bytes place next (rdata.A a) (rw (octets_here bytes place next 4 a.octets at.stands (sym f.0.four) (omega (arith, at.after, f.0.four))) refl) after (omega (arith, at.stands.fits, at.after)) (omega (arith, at.after, f.0.four))
data_here floor bytes place len next (rdata.AAAA a) in_range f at after =
    let size = octets_len a.segments in
    some_data 28 len bytes place next (rdata.AAAA a) (aaaa_here floor bytes place next a f.0 at) after (omega (arith, at.stands.fits, at.after)) (omega (arith, at.after, f.0.eight))
data_here floor bytes place len next (rdata.NS n) in_range f at after =
    let m = LabelsAt-longer at.labels in
    some_data 2 len bytes place next (rdata.NS n) (rw (name_here floor bytes place next n f.1 at) refl) after m.1 m.0
data_here floor bytes place len next (rdata.CNAME n) in_range f at after =
    let m = LabelsAt-longer at.labels in
    some_data 5 len bytes place next (rdata.CNAME n) (rw (name_here floor bytes place next n f.1 at) refl) after m.1 m.0
data_here floor bytes place len next (rdata.PTR n) in_range f at after =
    let m = LabelsAt-longer at.labels in
    some_data 12 len bytes place next (rdata.PTR n) (rw (name_here floor bytes place next n f.1 at) refl) after m.1 m.0
data_here floor bytes place len next (rdata.MX m) in_range f at after =
    let l = LabelsAt-longer at.exchange.labels in
    some_data 15 len bytes place next (rdata.MX m) (mx_here floor bytes place next m f at) after l.1 (omega (arith, at.preference.after, l.0))
data_here floor bytes place len next (rdata.SOA s) in_range f at after =
    let l = LabelsAt-longer at.mname.labels in
    let k = LabelsAt-longer at.rname.labels in
    some_data 6 len bytes place next (rdata.SOA s) (soa_here floor bytes place next s f at) after (omega (arith, at.numbers.stands.fits, at.numbers.after)) (omega (arith, at.numbers.after, l.0, k.0))
data_here floor bytes place len next (rdata.TXT []) in_range f at after = absurd (f.1 refl)
data_here floor bytes place len next (rdata.TXT (t ∷ ts)) in_range f at after =
    let size = length-append (character_string t) (flat_map character_string ts) in
    some_data 16 len bytes place next (rdata.TXT (t ∷ ts)) (rw (← after, strings_here bytes place next (t ∷ ts) at.stands at.after) refl) after (omega (arith, at.stands.fits, at.after)) (omega (arith, at.after))
data_here floor bytes place len next (rdata.OPT o) in_range f at after =
    let text = flat_map option_octets o in
    let u = opt_is_used (eqb len 0) in
    by_form 41 len bytes place next (rdata.OPT o) (rw (octets_here bytes place next len text at.stands (omega (arith, at.after)) after) (ap (λ (s : List EdnsOption). read_here (rdata.OPT s) bytes next) (options_again o f.0))) after (omega (arith, at.stands.fits, at.after)) u.0 u.1
data_here floor bytes place len next (rdata.TSIG t) in_range f at after =
    let l = LabelsAt-longer at.algorithm.labels in
    some_data 250 len bytes place next (rdata.TSIG t) (tsig_here floor bytes place next t f at) after (omega (arith, at.fields.stands.fits, at.fields.after)) (omega (arith, at.fields.after, l.0))
data_here floor bytes place len next (rdata.NULL []) in_range f at after = absurd (f.1 refl)
data_here floor bytes place len next (rdata.NULL (o ∷ os)) in_range f at after =
    some_data 10 len bytes place next (rdata.NULL (o ∷ os)) (rw (octets_here bytes place next len (o ∷ os) at.stands (omega (arith, at.after)) after) refl) after (omega (arith, at.stands.fits, at.after)) (omega (arith, at.after))
data_here floor bytes place len next (rdata.Update0 code) in_range f at after =
    let none : len ≡ 0 = omega arith in
    let long : ltb (length (drop place bytes)) 0 ≡ false = le-ltb _ _ (omega arith) in
    rw (none, long, at, ne_eqb code 41 f.1.0, ne_eqb code 250 f.1.1) refl
data_here floor bytes place len next (rdata.Unknown code []) in_range f at after = absurd (f.1.0 refl)
data_here floor bytes place len next (rdata.Unknown code (o ∷ os)) in_range f at after =
    let e : form code len (here bytes place) ≡ read_here (rdata.Unknown code (o ∷ os)) bytes next =
    rw (ne_eqb code 1 f.1.1, ne_eqb code 28 f.1.9, ne_eqb code 2 f.1.2, ne_eqb code 5 f.1.3, ne_eqb code 12 f.1.6, ne_eqb code 15 f.1.7, ne_eqb code 6 f.1.4, ne_eqb code 16 f.1.8, ne_eqb code 41 f.1.10, ne_eqb code 250 f.1.11, ne_eqb code 10 f.1.5, octets_here bytes place next len (o ∷ os) at.stands (omega (arith, at.after)) after) refl in
    some_data code len bytes place next (rdata.Unknown code (o ∷ os)) e after (omega (arith, at.stands.fits, at.after)) (omega (arith, at.after))

-- ---- records

-- the type of data that read back as themselves has 16 bits
pub type_small : (d : RData) → IsFormed d → type_of d < 2 ^ 16
type_small (rdata.A a) f = omega arith
type_small (rdata.AAAA a) f = omega arith
type_small (rdata.NS n) f = omega arith
type_small (rdata.CNAME n) f = omega arith
type_small (rdata.PTR n) f = omega arith
type_small (rdata.MX m) f = omega arith
type_small (rdata.SOA s) f = omega arith
type_small (rdata.TXT t) f = omega arith
type_small (rdata.OPT o) f = omega arith
type_small (rdata.TSIG o) f = omega arith
type_small (rdata.NULL o) f = omega arith
type_small (rdata.Update0 t) f = f.0
type_small (rdata.Unknown code o) f = f.0

-- a record is read where its owner, its fixed fields and its data are
pub record_here : (floor : ℕ) (bytes : List ℕ) (place middle len next : ℕ) (r : Record RData) → NameAt floor bytes place r.name middle → IsFullyQualified r.name → BytesAt bytes middle (fixed_fields r len) → type_of r.rdata < 2 ^ 16 → r.dns_class < 2 ^ 16 → r.ttl < 2 ^ 32 → len < 2 ^ 16
    → r.proof ≡ Indeterminate → record_data (type_of r.rdata) len (here bytes (middle + 10)) ≡ read_here r.rdata bytes next → resource (here bytes place) ≡ read_here r bytes next
unfolding resource
record_here floor bytes place m len next r owner marked fixed kind class ttl small proof d =
    let t1 = to_be_bytes w16 (type_of r.rdata) in
    let t2 = to_be_bytes w16 r.dns_class in
    let t3 = to_be_bytes w32 r.ttl in
    let t4 = to_be_bytes w16 len in
    let s2 = BytesAt-right bytes m t1 (t2 ++ t3 ++ t4) fixed in
    let s3 = BytesAt-right bytes (m + 2) t2 (t3 ++ t4) s2 in
    let s4 = BytesAt-right bytes (m + 2 + 2) t3 t4 s3 in
    let n1 = number16_here bytes m (m + 2) (type_of r.rdata) kind (BytesAt-left bytes m t1 (t2 ++ t3 ++ t4) fixed) refl in
    let n2 = number16_here bytes (m + 2) (m + 2 + 2) r.dns_class class (BytesAt-left bytes (m + 2) t2 (t3 ++ t4) s2) refl in
    let n3 = number32_here bytes (m + 2 + 2) (m + 2 + 2 + 4) r.ttl ttl (BytesAt-left bytes (m + 2 + 2) t3 t4 s3) refl in
    let n4 = number16_here bytes (m + 2 + 2 + 4) (m + 10) len small s4 (omega arith) in
    rw (name_here floor bytes place m r.name marked owner, n1, n2, n3, n4, d, ← proof) refl

-- A record that stands in its form is the one that is read.
pub form_read : (floor : ℕ) (bytes : List ℕ) (place next : ℕ) (r : Record RData) → IsFormedRecord r → FormAt floor bytes place r next → resource (here bytes place) ≡ read_here r bytes next
form_read floor bytes place next r f at =
    record_here floor bytes place at.middle at.len next r at.owner f.name at.fixed (type_small r.rdata f.rdata) f.class f.ttl at.small f.proof
    (data_here floor bytes (at.middle + 10) at.len next r.rdata (omega (arith, at.fixed.fits)) f.rdata at.rdata at.counted)
