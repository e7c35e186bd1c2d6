-- The layout of records and questions and their reading agree, and so there is one at most at a place.
use Rattle.std.proofs.Common.{◌≡◌, ◌⊎◌, inl, inr, ℕ, ◌+◌, ◌^◌, ◌<◌, ◌≤◌, List, [], length, eqb, Ok, refl, sym, ap, subst, ◌∙◌, arith}
use Rattle.std.specs.List.{flat_map}
use Rattle.std.specs.Int.{w16, to_be_bytes}
use Rattle.wire_names.specs.serialize.layout.Bytes.{AreBytes}
use Rattle.wire_messages.specs.serialize.reading.Cursor.{Cursor}
use Rattle.wire_messages.specs.serialize.layout.QuestionLayout.{QuestionAt, IsFormedQuestion}
use Rattle.wire_messages.specs.serialize.reading.Reading.{Read}
use Rattle.wire_messages.specs.rr.RecordData.{option_octets, type_of}
use Rattle.wire_messages.specs.rr.RecordData.OptionsOf.{well_formed, malformed}
use Rattle.wire_messages.specs.serialize.layout.RecordLayout.{OctetsAt, DataAt, DataRead, FormAt, IsFormed, IsFormedRecord, RecordAt}
use Rattle.wire_messages.specs.serialize.reading.RecordReading.{form, record_data, resource, question}
use Rattle.wire_messages.specs.declared.op.edns.EdnsOption.{EdnsOption}
use Rattle.wire_messages.specs.declared.op.query.Query.{Query}
use Rattle.wire_messages.specs.declared.rr.rdata.RData.{RData}
use Rattle.wire_messages.specs.declared.rr.rdata.RData.TheVariants as rdata
use Rattle.wire_messages.specs.declared.rr.record.Record.{Record}
use Rattle.wire_messages.proofs.lemmas.serialize.layout.ByteTexts.{here, read_here, BytesAt-left, BytesAt-right, number16_here, octets_here}
use Rattle.wire_reading.proofs.lemmas.serialize.reading.FormIsRead.{name_here, by_form, opt_is_used, data_here, type_small, record_here, form_read}
use Rattle.wire_messages.proofs.lemmas.serialize.layout.FormKeeps.{LabelsAt-longer, FormAt-keeps}
use Rattle.wire_messages.proofs.lemmas.serialize.layout.Stable.{KeepsFrom-same}
use Rattle.wire_reading.proofs.lemmas.serialize.reading.OptionSteps.{options_read}
use Rattle.wire_reading.proofs.lemmas.serialize.reading.ReadFields.{stands_bytes}
use Rattle.wire_reading.proofs.lemmas.serialize.reading.ReadRecords.{resource_in, question_in}
use Rattle.wire_messages.proofs.lemmas.serialize.reading.StringSteps.{ok_is}

-- ---- what stands as it is read, is read

-- the options of an OPT record, whether or not its octets are made of them
opt_read : (bytes : List ℕ) (place len next : ℕ) (options : List EdnsOption) → AreBytes bytes → DataRead bytes place (rdata.OPT options) next → next ≡ place + len → record_data 41 len (here bytes place) ≡ read_here (rdata.OPT options) bytes next
unfolding form
opt_read bytes place len next options a (text, at, held) after =
    let u = opt_is_used (eqb len 0) in
    let is = options_read text options held (stands_bytes bytes place text a at.stands) in
    by_form 41 len bytes place next (rdata.OPT options)
    (rw (octets_here bytes place next len text at.stands (omega (arith, at.after)) after) (ap (λ (s : List EdnsOption). read_here (rdata.OPT s) bytes next) is))
    after (omega (arith, at.stands.fits, at.after)) u.0 u.1

-- data of any type
data_read : (bytes : List ℕ) (place len next : ℕ) (d : RData) → AreBytes bytes → place ≤ length bytes → DataRead bytes place d next → next ≡ place + len → (record_data (type_of d) len (here bytes place) ≡ read_here d bytes next) × (type_of d < 2 ^ 16)
data_read bytes place len next (rdata.A x) a within (at, f) after = (data_here 0 bytes place len next (rdata.A x) within f at after, type_small (rdata.A x) f)
data_read bytes place len next (rdata.AAAA x) a within (at, f) after = (data_here 0 bytes place len next (rdata.AAAA x) within f at after, type_small (rdata.AAAA x) f)
data_read bytes place len next (rdata.NS x) a within (at, f) after = (data_here 0 bytes place len next (rdata.NS x) within f at after, type_small (rdata.NS x) f)
data_read bytes place len next (rdata.CNAME x) a within (at, f) after = (data_here 0 bytes place len next (rdata.CNAME x) within f at after, type_small (rdata.CNAME x) f)
data_read bytes place len next (rdata.PTR x) a within (at, f) after = (data_here 0 bytes place len next (rdata.PTR x) within f at after, type_small (rdata.PTR x) f)
data_read bytes place len next (rdata.MX x) a within (at, f) after = (data_here 0 bytes place len next (rdata.MX x) within f at after, type_small (rdata.MX x) f)
data_read bytes place len next (rdata.SOA x) a within (at, f) after = (data_here 0 bytes place len next (rdata.SOA x) within f at after, type_small (rdata.SOA x) f)
data_read bytes place len next (rdata.TXT x) a within (at, f) after = (data_here 0 bytes place len next (rdata.TXT x) within f at after, type_small (rdata.TXT x) f)
data_read bytes place len next (rdata.OPT x) a within at after = (opt_read bytes place len next x a at after, omega arith)
data_read bytes place len next (rdata.TSIG x) a within (at, f) after = (data_here 0 bytes place len next (rdata.TSIG x) within f at after, type_small (rdata.TSIG x) f)
data_read bytes place len next (rdata.NULL x) a within (at, f) after = (data_here 0 bytes place len next (rdata.NULL x) within f at after, type_small (rdata.NULL x) f)
data_read bytes place len next (rdata.Update0 x) a within (at, f) after = (data_here 0 bytes place len next (rdata.Update0 x) within f at after, type_small (rdata.Update0 x) f)
data_read bytes place len next (rdata.Unknown x o) a within (at, f) after = (data_here 0 bytes place len next (rdata.Unknown x o) within f at after, type_small (rdata.Unknown x o) f)

-- A record that stands as records are read is the one that is read.
pub record_read : (bytes : List ℕ) (place next : ℕ) (r : Record RData) → AreBytes bytes → RecordAt bytes place r next → resource (here bytes place) ≡ read_here r bytes next
record_read bytes place next r a at =
    let d = data_read bytes (at.middle + 10) at.len next r.rdata a (omega (arith, at.fixed.fits)) at.rdata at.counted in
    record_here 0 bytes place at.middle at.len next r at.owner at.name at.fixed d.1 at.class at.ttl at.small at.proof d.0

-- A record that is read stands there.
pub record_found : (c : Cursor) (r : Record RData) (next : Cursor) → AreBytes c.bytes → resource c ≡ Ok (r, next) → RecordAt c.bytes c.place r next.place × (next.bytes ≡ c.bytes)
record_found c r next a e = resource_in c.bytes a c (r, next) refl e

-- ---- what stands as it is read, has its form

-- the data have the form of their type, or are an OPT record's without options
data_form : (bytes : List ℕ) (place next : ℕ) (d : RData) → DataRead bytes place d next → (DataAt 0 bytes place d next × IsFormed d) ⊎ (d ≡ rdata.OPT [])
data_form bytes place next (rdata.A x) at = inl at
data_form bytes place next (rdata.AAAA x) at = inl at
data_form bytes place next (rdata.NS x) at = inl at
data_form bytes place next (rdata.CNAME x) at = inl at
data_form bytes place next (rdata.PTR x) at = inl at
data_form bytes place next (rdata.MX x) at = inl at
data_form bytes place next (rdata.SOA x) at = inl at
data_form bytes place next (rdata.TXT x) at = inl at
data_form bytes place next (rdata.OPT x) (text, at, well_formed all e) = inl (subst (λ (s : List ℕ). OctetsAt 0 bytes place s next) e at, (all, tt))
data_form bytes place next (rdata.OPT x) (text, at, malformed none) = inr refl
data_form bytes place next (rdata.TSIG x) at = inl at
data_form bytes place next (rdata.NULL x) at = inl at
data_form bytes place next (rdata.Update0 x) at = inl at
data_form bytes place next (rdata.Unknown x o) at = inl at

-- A record that stands as records are read has its form, but for an OPT record whose octets are not made of options.
pub record_form : (bytes : List ℕ) (place next : ℕ) (r : Record RData) → RecordAt bytes place r next → (FormAt 0 bytes place r next × IsFormedRecord r) ⊎ (r.rdata ≡ rdata.OPT [])
record_form bytes place next r at =
    elim (data_form bytes (at.middle + 10) next r.rdata at.rdata) [
      | inr none ↦ inr none
      | inl form ↦ inl (
        record { middle = at.middle; len = at.len; owner = at.owner; fixed = at.fixed; small = at.small; rdata = form.0; counted = at.counted },
        record { name = at.name; class = at.class; ttl = at.ttl; rdata = form.1; proof = at.proof },
      )
    ]

-- octets that stand lie in the bytes
octets_within : {floor : ℕ} {bytes : List ℕ} {place next : ℕ} {text : List ℕ} → OctetsAt floor bytes place text next → next ≤ length bytes
octets_within at = omega (arith, at.stands.fits, at.after)

-- data that have their form lie in the bytes
data_within : (floor : ℕ) (bytes : List ℕ) (place next : ℕ) (d : RData) → place ≤ length bytes → DataAt floor bytes place d next → next ≤ length bytes
data_within floor bytes place next (rdata.A x) within at = octets_within at
data_within floor bytes place next (rdata.AAAA x) within at = octets_within at
data_within floor bytes place next (rdata.NS x) within at = (LabelsAt-longer at.labels).1
data_within floor bytes place next (rdata.CNAME x) within at = (LabelsAt-longer at.labels).1
data_within floor bytes place next (rdata.PTR x) within at = (LabelsAt-longer at.labels).1
data_within floor bytes place next (rdata.MX x) within at = (LabelsAt-longer at.exchange.labels).1
data_within floor bytes place next (rdata.SOA x) within at = octets_within at.numbers
data_within floor bytes place next (rdata.TXT x) within at = octets_within at
data_within floor bytes place next (rdata.OPT x) within at = octets_within at
data_within floor bytes place next (rdata.TSIG x) within at = octets_within at.fields
data_within floor bytes place next (rdata.NULL x) within at = octets_within at
data_within floor bytes place next (rdata.Update0 x) within at = omega arith
data_within floor bytes place next (rdata.Unknown x o) within at = octets_within at

-- data that have their form stand as data are read
formed_data : (bytes : List ℕ) (place next : ℕ) (d : RData) → DataAt 0 bytes place d next → IsFormed d → DataRead bytes place d next
formed_data bytes place next (rdata.A x) at f = (at, f)
formed_data bytes place next (rdata.AAAA x) at f = (at, f)
formed_data bytes place next (rdata.NS x) at f = (at, f)
formed_data bytes place next (rdata.CNAME x) at f = (at, f)
formed_data bytes place next (rdata.PTR x) at f = (at, f)
formed_data bytes place next (rdata.MX x) at f = (at, f)
formed_data bytes place next (rdata.SOA x) at f = (at, f)
formed_data bytes place next (rdata.TXT x) at f = (at, f)
formed_data bytes place next (rdata.OPT x) at f = (flat_map option_octets x, at, well_formed f.0 refl)
formed_data bytes place next (rdata.TSIG x) at f = (at, f)
formed_data bytes place next (rdata.NULL x) at f = (at, f)
formed_data bytes place next (rdata.Update0 x) at f = (at, f)
formed_data bytes place next (rdata.Unknown x o) at f = (at, f)

-- A record that has its form stands as records are read.
pub formed_record : (floor : ℕ) (bytes : List ℕ) (place next : ℕ) (r : Record RData) → IsFormedRecord r → FormAt floor bytes place r next → RecordAt bytes place r next
formed_record floor bytes place next r f at =
    let low = FormAt-keeps {lower = 0} (KeepsFrom-same floor bytes) (omega arith) at in
    record {
      middle = low.middle;
      len = low.len;
      owner = low.owner;
      name = f.name;
      fixed = low.fixed;
      class = f.class;
      ttl = f.ttl;
      small = low.small;
      rdata = formed_data bytes (low.middle + 10) next r.rdata low.rdata f.rdata;
      counted = low.counted;
      within = data_within 0 bytes (low.middle + 10) next r.rdata (omega (arith, low.fixed.fits)) low.rdata;
      proof = f.proof;
    }

-- ---- questions

-- A question that stands in its form is the one that is read.
pub question_read : (floor : ℕ) (bytes : List ℕ) (place next : ℕ) (q : Query) → IsFormedQuestion q → QuestionAt floor bytes place q next → question (here bytes place) ≡ read_here q bytes next
unfolding question
question_read floor bytes place next q f at =
    let m = at.middle in
    let kind = to_be_bytes w16 q.query_type in
    let class = to_be_bytes w16 q.query_class in
    let n1 = number16_here bytes m (m + 2) q.query_type f.query_type (BytesAt-left bytes m kind class at.fields) refl in
    let n2 = number16_here bytes (m + 2) next q.query_class f.query_class (BytesAt-right bytes m kind class at.fields) (omega (arith, at.after)) in
    rw (name_here floor bytes place m q.name f.name at.name, n1, n2) refl

-- A question that is read stands there.
pub question_found : (c : Cursor) (q : Query) (next : Cursor) → AreBytes c.bytes → question c ≡ Ok (q, next) → QuestionAt 0 c.bytes c.place q next.place × IsFormedQuestion q × (next.bytes ≡ c.bytes)
question_found c q next a e = question_in c.bytes a c (q, next) refl e

-- ---- one at most

-- what is read at a place is one
one_read : {A : Type 0} (bytes : List ℕ) (p q : ℕ) (x y : A) (read : Read A) → read ≡ read_here x bytes p → read ≡ read_here y bytes q → (x ≡ y) × (p ≡ q)
one_read {A} bytes p q x y read e f =
    let v : A × Cursor = (x, here bytes p) in
    let w : A × Cursor = (y, here bytes q) in
    let same : v ≡ w = ok_is v w (sym e ∙ f) in
    (ap (λ (z : A × Cursor). z.0) same, ap (λ (z : A × Cursor). z.1.place) same)

-- one record at most is read at a place
pub one_record_read : (bytes : List ℕ) (place p q : ℕ) (r s : Record RData) → AreBytes bytes → RecordAt bytes place r p → RecordAt bytes place s q → (r ≡ s) × (p ≡ q)
one_record_read bytes place p q r s a x y = one_read bytes p q r s (resource (here bytes place)) (record_read bytes place p r a x) (record_read bytes place q s a y)

-- one record at most stands at a place in its form
pub one_record_formed : (bytes : List ℕ) (floor other place p q : ℕ) (r s : Record RData) → IsFormedRecord r → IsFormedRecord s → FormAt floor bytes place r p → FormAt other bytes place s q → (r ≡ s) × (p ≡ q)
one_record_formed bytes floor other place p q r s f g x y = one_read bytes p q r s (resource (here bytes place)) (form_read floor bytes place p r f x) (form_read other bytes place q s g y)

-- one question at most stands at a place in its form
pub one_question : (bytes : List ℕ) (floor other place p q : ℕ) (m n : Query) → IsFormedQuestion m → IsFormedQuestion n → QuestionAt floor bytes place m p → QuestionAt other bytes place n q → (m ≡ n) × (p ≡ q)
one_question bytes floor other place p q m n f g x y = one_read bytes p q m n (question (here bytes place)) (question_read floor bytes place p m f x) (question_read other bytes place q n g y)
