-- A record written with every name in full stands in its form.
use Rattle.std.proofs.Common.{◌≡◌, ℕ, ◌+◌, ◌^◌, ◌<◌, ◌≤◌, List, [], ◌∷◌, ◌++◌, length, None, refl, sym, ap, subst, ◌∙◌, arith, length-append}
use Rattle.std.proofs.lemmas.List.{append_assoc}
use Rattle.std.proofs.lemmas.List.Elements.{recursion_from_All}
use Rattle.std.specs.List.{AllByRecursion}
use Rattle.std.specs.Int.{w16, w32, to_be_bytes}
use Rattle.wire_names.specs.serialize.layout.Bytes.{BytesAt}
use Rattle.wire_messages.specs.serialize.layout.FieldRanges.{IsRecordInRange}
use Rattle.wire_names.specs.rr.domain.DomainName.{DomainName, IsLabel, AreLabels, wire_form, name_len}
use Rattle.wire_messages.specs.serialize.writing.FullForm.{name_octets, data_octets, record_octets, EndsInFull, HasNames}
use Rattle.wire_messages.specs.serialize.layout.NameLayout.{LabelsAt, NameAt}
use Rattle.wire_messages.specs.serialize.layout.NameLayout.LabelsAt.{at_end, at_label}
use Rattle.wire_messages.specs.serialize.writing.QuestionForm.{question_octets}
use Rattle.wire_messages.specs.serialize.layout.QuestionLayout.{QuestionAt}
use Rattle.wire_messages.specs.rr.RecordData.{soa_numbers, tsig_fields, type_of}
use Rattle.wire_messages.specs.serialize.layout.RecordLayout.{OctetsAt, DataAt, FormAt, fixed_fields}
use Rattle.wire_messages.specs.serialize.writing.RecordSize.{data_len, full_size, unwritable_reason}
use Rattle.wire_writing.specs.serialize.writing.Writing.{Puts}
use Rattle.wire_messages.specs.declared.op.query.Query.{Query}
use Rattle.wire_messages.specs.declared.rr.rdata.RData.{RData}
use Rattle.wire_messages.specs.declared.rr.rdata.RData.TheVariants as rdata
use Rattle.wire_messages.specs.declared.rr.record.Record.{Record}
use Rattle.wire_messages.proofs.lemmas.serialize.layout.ByteTexts.{BytesAt-left, BytesAt-right}
use Rattle.wire_messages.proofs.lemmas.serialize.layout.Stable.{BytesAt-append}

-- a name in full is as long as it says
pub name_octets-len : (labels : List (List ℕ)) → length (name_octets labels) ≡ name_len labels
name_octets-len [] = refl
name_octets-len (l ∷ ls) = omega (arith, length-append l (wire_form ls), length-append (l ++ wire_form ls) (0 ∷ []), length-append (wire_form ls) (0 ∷ []), name_octets-len ls)

pub labels_stand : (bytes : List ℕ) (floor start place : ℕ) (labels : List (List ℕ)) → AllByRecursion IsLabel labels → floor ≤ place → BytesAt bytes place (name_octets labels) → LabelsAt floor bytes start place labels (place + name_len labels)
labels_stand bytes floor start place [] are low s = at_end low s refl
labels_stand bytes floor start place (l ∷ ls) are low s =
    let parts : BytesAt bytes place ((length l ∷ l) ++ name_octets ls) = subst (λ t. BytesAt bytes place (length l ∷ t)) (append_assoc l (wire_form ls) (0 ∷ [])) s in
    let rest = labels_stand bytes floor start (place + length (length l ∷ l)) ls are.1 (omega arith) (BytesAt-right bytes place (length l ∷ l) (name_octets ls) parts) in
    at_label low are.0 (BytesAt-left bytes place (length l ∷ l) (name_octets ls) parts) (omega arith)
    (subst (λ n. LabelsAt floor bytes start (place + length (length l ∷ l)) ls n) (omega arith) rest)

-- a name stands where it stands in full
pub name_stands : (bytes : List ℕ) (floor place next : ℕ) (name : DomainName) → AreLabels name.labels → floor ≤ place → BytesAt bytes place (name_octets name.labels) → next ≡ place + name_len name.labels → NameAt floor bytes place name next
name_stands bytes floor place next name are low s e = record {
  labels = subst (λ n. LabelsAt floor bytes place place name.labels n) (sym e) (labels_stand bytes floor place place name.labels (recursion_from_All IsLabel name.labels are.each) low s);
  short = are.short;
}

octets_stand : (bytes : List ℕ) (floor place next : ℕ) (octets : List ℕ) → floor ≤ place → BytesAt bytes place octets → next ≡ place + length octets → OctetsAt floor bytes place octets next
octets_stand bytes floor place next octets low s e = record { above = low; stands = s; after = e }

pub data_octets-len : (d : RData) → length (data_octets d) ≡ data_len d
data_octets-len (rdata.A address) = refl
data_octets-len (rdata.AAAA address) = refl
data_octets-len (rdata.NS name) = name_octets-len name.labels
data_octets-len (rdata.CNAME name) = name_octets-len name.labels
data_octets-len (rdata.PTR name) = name_octets-len name.labels
data_octets-len (rdata.MX mx) = omega (arith, length-append (to_be_bytes w16 mx.preference) (name_octets mx.exchange.labels), name_octets-len mx.exchange.labels)
data_octets-len (rdata.SOA soa) =
    let m = name_octets soa.mname.labels in
    let r = name_octets soa.rname.labels in
    omega (arith, length-append (m ++ r) (soa_numbers soa), length-append m r, name_octets-len soa.mname.labels, name_octets-len soa.rname.labels)
data_octets-len (rdata.TXT strings) = refl
data_octets-len (rdata.OPT options) = refl
data_octets-len (rdata.TSIG t) = omega (arith, length-append (name_octets t.algorithm.labels) (tsig_fields t), name_octets-len t.algorithm.labels)
data_octets-len (rdata.NULL octets) = refl
data_octets-len (rdata.Update0 code) = refl
data_octets-len (rdata.Unknown code octets) = refl

-- data stand where their octets stand
pub data_stand : (bytes : List ℕ) (floor place next : ℕ) (d : RData) → HasNames d → floor ≤ place → BytesAt bytes place (data_octets d) → next ≡ place + data_len d → DataAt floor bytes place d next
data_stand bytes floor place next (rdata.A address) h low s e = octets_stand bytes floor place next _ low s e
data_stand bytes floor place next (rdata.AAAA address) h low s e = octets_stand bytes floor place next _ low s e
data_stand bytes floor place next (rdata.NS name) h low s e = name_stands bytes floor place next name h low s e
data_stand bytes floor place next (rdata.CNAME name) h low s e = name_stands bytes floor place next name h low s e
data_stand bytes floor place next (rdata.PTR name) h low s e = name_stands bytes floor place next name h low s e
data_stand bytes floor place next (rdata.MX mx) h low s e =
    let text = to_be_bytes w16 mx.preference in
    let name = name_octets mx.exchange.labels in
    record {
      middle = place + 2;
      preference = octets_stand bytes floor place (place + 2) text low (BytesAt-left bytes place text name s) refl;
      exchange = name_stands bytes floor (place + 2) next mx.exchange h (omega arith) (BytesAt-right bytes place text name s) (omega arith);
    }
data_stand bytes floor place next (rdata.SOA soa) h low s e =
    let m = name_octets soa.mname.labels in
    let r = name_octets soa.rname.labels in
    let numbers = soa_numbers soa in
    let len_m = name_octets-len soa.mname.labels in
    let len_r = name_octets-len soa.rname.labels in
    let len_both = length-append m r in
    let names = BytesAt-left bytes place (m ++ r) numbers s in
    let one = place + name_len soa.mname.labels in
    let two = one + name_len soa.rname.labels in
    record {
      one = one;
      two = two;
      mname = name_stands bytes floor place one soa.mname h.0 low (BytesAt-left bytes place m r names) refl;
      rname = name_stands bytes floor one two soa.rname h.1 (omega arith) (subst (λ p. BytesAt bytes p r) (omega (arith, len_m)) (BytesAt-right bytes place m r names)) refl;
      numbers = octets_stand bytes floor two next numbers (omega arith) (subst (λ p. BytesAt bytes p numbers) (omega (arith, len_m, len_r, len_both)) (BytesAt-right bytes place (m ++ r) numbers s)) (omega arith);
    }
data_stand bytes floor place next (rdata.TXT strings) h low s e = octets_stand bytes floor place next _ low s e
data_stand bytes floor place next (rdata.OPT options) h low s e = octets_stand bytes floor place next _ low s e
data_stand bytes floor place next (rdata.TSIG t) h low s e =
    let name = name_octets t.algorithm.labels in
    let fields = tsig_fields t in
    let len = name_octets-len t.algorithm.labels in
    let middle = place + name_len t.algorithm.labels in
    record {
      middle = middle;
      algorithm = name_stands bytes floor place middle t.algorithm h low (BytesAt-left bytes place name fields s) refl;
      fields = octets_stand bytes floor middle next fields (omega arith) (subst (λ p. BytesAt bytes p fields) (omega (arith, len)) (BytesAt-right bytes place name fields s)) (omega arith);
    }
data_stand bytes floor place next (rdata.NULL octets) h low s e = octets_stand bytes floor place next octets low s e
data_stand bytes floor place next (rdata.Update0 code) h low s e = omega arith
data_stand bytes floor place next (rdata.Unknown code octets) h low s e = octets_stand bytes floor place next octets low s e

-- a record is as long in full as it says
pub record_octets-len : (r : Record RData) → length (record_octets r) ≡ full_size r
record_octets-len r =
    let name = name_octets r.name.labels in
    let fixed = fixed_fields r (data_len r.rdata) in
    omega (arith, length-append (name ++ fixed) (data_octets r.rdata), length-append name fixed, name_octets-len r.name.labels, data_octets-len r.rdata)

-- a record stands where it stands in full
pub record_stands : (bytes : List ℕ) (floor place next : ℕ) (r : Record RData) → AreLabels r.name.labels → HasNames r.rdata → data_len r.rdata < 2 ^ 16 → floor ≤ place → BytesAt bytes place (record_octets r) → next ≡ place + full_size r → FormAt floor bytes place r next
record_stands bytes floor place next r owner names small low s e =
    let name = name_octets r.name.labels in
    let fixed = fixed_fields r (data_len r.rdata) in
    let head = BytesAt-left bytes place (name ++ fixed) (data_octets r.rdata) s in
    let middle = place + name_len r.name.labels in
    let len = name_octets-len r.name.labels in
    record {
      middle = middle;
      len = data_len r.rdata;
      owner = name_stands bytes floor place middle r.name owner low (BytesAt-left bytes place name fixed head) refl;
      fixed = subst (λ p. BytesAt bytes p fixed) (omega (arith, len)) (BytesAt-right bytes place name fixed head);
      small = small;
      rdata = data_stand bytes floor (middle + 10) next r.rdata names (omega arith) (subst (λ p. BytesAt bytes p (data_octets r.rdata)) (omega (arith, len, length-append name fixed)) (BytesAt-right bytes place (name ++ fixed) (data_octets r.rdata) s)) (omega arith);
      counted = omega arith;
    }

-- octets that end in data in full do so whatever the data
pub ends_in_full : (d : RData) (front : List ℕ) → EndsInFull d (front ++ data_octets d)
ends_in_full (rdata.TSIG signature) front = (front, refl)
ends_in_full content front = tt

-- a record that is put in full is put
pub puts_full : (limit : ℕ) (old new : List ℕ) (r : Record RData) → 12 ≤ length old → AreLabels r.name.labels → HasNames r.rdata → unwritable_reason r.rdata ≡ None → IsRecordInRange r → data_len r.rdata < 2 ^ 16 → new ≡ old ++ record_octets r → length old + full_size r ≤ limit → Puts limit old r new
puts_full limit old new r low owner names formed in_range small e within =
    let size = record_octets-len r in
    let all : length new ≡ length old + full_size r = omega (arith, ap length e, length-append old (record_octets r), size) in
    record {
      more = record_octets r;
      formed = formed;
      in_range = in_range;
      appended = e;
      in_full = ends_in_full r.rdata (name_octets r.name.labels ++ fixed_fields r (data_len r.rdata));
      small = omega (arith, size);
      within = omega arith;
      form = record_stands new 12 (length old) (length new) r owner names small low (subst (λ b. BytesAt b (length old) (record_octets r)) (sym e) (BytesAt-append old (record_octets r))) all;
    }

-- a record whose parts are put one behind the other is put
pub put_parts : (limit : ℕ) (old named fixed new : List ℕ) (r : Record RData) (kind class ttl len : ℕ) → 12 ≤ length old → AreLabels r.name.labels → HasNames r.rdata → (unwritable_reason r.rdata ≡ None) × (len ≡ data_len r.rdata) → IsRecordInRange r → len < 2 ^ 16
    → named ≡ old ++ name_octets r.name.labels → fixed ≡ named ++ (to_be_bytes w16 kind ++ to_be_bytes w16 class ++ to_be_bytes w32 ttl ++ to_be_bytes w16 len) → new ≡ fixed ++ data_octets r.rdata
    → kind ≡ type_of r.rdata → class ≡ r.dns_class → ttl ≡ r.ttl → length old + (name_len r.name.labels + 10 + len) ≤ limit → Puts limit old r new
put_parts limit old named fixed new r kind class ttl len low owner names formed in_range small e1 e2 e3 ek ec et fit =
    let name = name_octets r.name.labels in
    let fields : fixed ≡ named ++ fixed_fields r (data_len r.rdata) = e2 ∙ rw (ek, ec, et, formed.1) refl in
    let whole : new ≡ old ++ record_octets r =
    e3 ∙ ap (λ b. b ++ data_octets r.rdata) (fields ∙ ap (λ b. b ++ fixed_fields r (data_len r.rdata)) e1 ∙ append_assoc old name (fixed_fields r (data_len r.rdata)))
    ∙ append_assoc old (name ++ fixed_fields r (data_len r.rdata)) (data_octets r.rdata) in
    puts_full limit old new r low owner names formed.0 in_range (omega (arith, formed.1)) whole (omega (arith, formed.1))

-- a question is as long in full as it says
pub question_octets-len : (q : Query) → length (question_octets q) ≡ name_len q.name.labels + 4
question_octets-len q =
    let name = name_octets q.name.labels in
    let kind = to_be_bytes w16 q.query_type in
    omega (arith, length-append (name ++ kind) (to_be_bytes w16 q.query_class), length-append name kind, name_octets-len q.name.labels)

-- a question stands where it stands in full
pub question_stands : (bytes : List ℕ) (floor place : ℕ) (q : Query) → AreLabels q.name.labels → floor ≤ place → BytesAt bytes place (question_octets q) → QuestionAt floor bytes place q (place + length (question_octets q))
question_stands bytes floor place q are low s =
    let name = name_octets q.name.labels in
    let kind = to_be_bytes w16 q.query_type in
    let class = to_be_bytes w16 q.query_class in
    let parts : BytesAt bytes place (name ++ (kind ++ class)) = subst (λ t. BytesAt bytes place t) (append_assoc name kind class) s in
    let len = name_octets-len q.name.labels in
    let size = question_octets-len q in
    let middle = place + name_len q.name.labels in
    record {
      middle = middle;
      name = name_stands bytes floor place middle q.name are low (BytesAt-left bytes place name (kind ++ class) parts) refl;
      fields = subst (λ p. BytesAt bytes p (kind ++ class)) (omega (arith, len)) (BytesAt-right bytes place name (kind ++ class) parts);
      after = omega (arith, size);
    }
