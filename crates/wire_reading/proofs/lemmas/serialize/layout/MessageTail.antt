-- What stands behind a message is free.
use Rattle.std.proofs.Common.{◌≡◌, inl, inr, ℕ, ◌+◌, ◌-◌, ◌≤◌, List, [], ◌∷◌, ◌++◌, length, get_or, arith}
use Rattle.std.proofs.lemmas.Bool.{cases_lt}
use Rattle.std.proofs.lemmas.List.{get_or_append_left, get_or-append-add}
use Rattle.wire_names.specs.serialize.layout.Bytes.{AreBytes, KeepsFrom}
use Rattle.wire_messages.specs.serialize.layout.HeaderLayout.{HeaderAt}
use Rattle.wire_messages.specs.serialize.layout.MessageLayout.{ItemsAt, QuestionRead}
use Rattle.wire_reading.specs.serialize.layout.WholeMessage.{MessageAt}
use Rattle.wire_messages.specs.serialize.layout.RecordLayout.{DataRead, RecordAt}
use Rattle.wire_messages.specs.declared.op.header.Header.{Header}
use Rattle.wire_reading.specs.declared.op.message.Message.{Message}
use Rattle.wire_messages.specs.declared.op.query.Query.{Query}
use Rattle.wire_messages.specs.declared.rr.rdata.RData.{RData}
use Rattle.wire_messages.specs.declared.rr.rdata.RData.TheVariants as rdata
use Rattle.wire_messages.specs.declared.rr.record.Record.{Record}
use Rattle.wire_messages.proofs.lemmas.serialize.layout.FormKeeps.{OctetsAt-keeps, DataAt-keeps, QuestionAt-keeps}
use Rattle.wire_messages.proofs.lemmas.serialize.layout.Stable.{BytesAt-keeps, NameAt-keeps}

none_below : 0 ≤ 0
none_below = omega arith

-- data that are read are read again when more stands behind them
data_keeps : {old new : List ℕ} (place next : ℕ) → KeepsFrom 0 old new → (content : RData) → DataRead old place content next → DataRead new place content next
data_keeps place next k (rdata.A address) d = (DataAt-keeps place next k none_below (rdata.A address) d.0, d.1)
data_keeps place next k (rdata.AAAA address) d = (DataAt-keeps place next k none_below (rdata.AAAA address) d.0, d.1)
data_keeps place next k (rdata.NS name) d = (DataAt-keeps place next k none_below (rdata.NS name) d.0, d.1)
data_keeps place next k (rdata.CNAME name) d = (DataAt-keeps place next k none_below (rdata.CNAME name) d.0, d.1)
data_keeps place next k (rdata.PTR name) d = (DataAt-keeps place next k none_below (rdata.PTR name) d.0, d.1)
data_keeps place next k (rdata.MX mx) d = (DataAt-keeps place next k none_below (rdata.MX mx) d.0, d.1)
data_keeps place next k (rdata.SOA soa) d = (DataAt-keeps place next k none_below (rdata.SOA soa) d.0, d.1)
data_keeps place next k (rdata.TXT strings) d = (DataAt-keeps place next k none_below (rdata.TXT strings) d.0, d.1)
data_keeps place next k (rdata.OPT options) (octets, at, of) = (octets, OctetsAt-keeps k none_below at, of)
data_keeps place next k (rdata.TSIG signature) d = (DataAt-keeps place next k none_below (rdata.TSIG signature) d.0, d.1)
data_keeps place next k (rdata.NULL octets) d = (DataAt-keeps place next k none_below (rdata.NULL octets) d.0, d.1)
data_keeps place next k (rdata.Update0 code) d = (DataAt-keeps place next k none_below (rdata.Update0 code) d.0, d.1)
data_keeps place next k (rdata.Unknown code octets) d = (DataAt-keeps place next k none_below (rdata.Unknown code octets) d.0, d.1)

-- a record that is read is read again when more stands behind it
record_keeps : {old new : List ℕ} → KeepsFrom 0 old new → (place : ℕ) (r : Record RData) (next : ℕ) → RecordAt old place r next → RecordAt new place r next
record_keeps k place r next at = record {
  middle = at.middle;
  len = at.len;
  owner = NameAt-keeps k none_below at.owner;
  name = at.name;
  fixed = BytesAt-keeps k (omega arith) at.fixed;
  class = at.class;
  ttl = at.ttl;
  small = at.small;
  rdata = data_keeps (at.middle + 10) next k r.rdata at.rdata;
  counted = at.counted;
  within = omega (arith, k.longer, at.within);
  proof = at.proof;
}

-- so is a question
question_keeps : {old new : List ℕ} → KeepsFrom 0 old new → (place : ℕ) (q : Query) (next : ℕ) → QuestionRead old place q next → QuestionRead new place q next
question_keeps k place q next at = record { stands = QuestionAt-keeps k none_below at.stands; formed = at.formed }

-- items stay where each of them does
items_keep : {A : Type 0} (p q : ℕ → A → ℕ → Type 0) → ((place : ℕ) (x : A) (next : ℕ) → p place x next → q place x next) → (place : ℕ) (xs : List A) (next : ℕ) → ItemsAt p place xs next → ItemsAt q place xs next
items_keep p q each place [] next e = e
items_keep p q each place (x ∷ xs) next (middle, at, more) = (middle, each place x middle at, items_keep p q each middle xs next more)

-- so is a header
header_keeps : {old new : List ℕ} → KeepsFrom 0 old new → (h : Header) → HeaderAt old h → HeaderAt new h
header_keeps k h at = record { id = at.id; one = at.one; two = at.two; stands = BytesAt-keeps k (omega arith) at.stands; id_small = at.id_small; counts = at.counts; metadata = at.metadata }

-- so is a message
pub message_keeps : {old new : List ℕ} → KeepsFrom 0 old new → (m : Message) → MessageAt old m → MessageAt new m
message_keeps {old} {new} k m at = record {
  header = at.header;
  all = at.all;
  answers_at = at.answers_at;
  authorities_at = at.authorities_at;
  additionals_at = at.additionals_at;
  stop = at.stop;
  header_stands = header_keeps k at.header at.header_stands;
  queries = items_keep (QuestionRead old) (QuestionRead new) (question_keeps k) 12 m.queries at.answers_at at.queries;
  answers = items_keep (RecordAt old) (RecordAt new) (record_keeps k) at.answers_at m.answers at.authorities_at at.answers;
  authorities = items_keep (RecordAt old) (RecordAt new) (record_keeps k) at.authorities_at m.authorities at.additionals_at at.authorities;
  additionals = items_keep (RecordAt old) (RecordAt new) (record_keeps k) at.additionals_at at.all at.stop at.additionals;
  query_count = at.query_count;
  answer_count = at.answer_count;
  authority_count = at.authority_count;
  additional_count = at.additional_count;
  answers_plain = at.answers_plain;
  authorities_plain = at.authorities_plain;
  section = at.section;
  metadata = at.metadata;
}

-- bytes behind bytes are bytes
pub both_bytes : (bytes more : List ℕ) → AreBytes bytes → AreBytes more → AreBytes (bytes ++ more)
both_bytes bytes more a b k = elim (cases_lt k (length bytes)) [
  | inl lt ↦ let e : get_or (bytes ++ more) k 0 ≡ get_or bytes k 0 = get_or_append_left bytes more 0 k lt in omega (arith, a k)
  | inr le ↦
      let e : get_or (bytes ++ more) (length bytes + (k - length bytes)) 0 ≡ get_or more (k - length bytes) 0 = get_or-append-add bytes more (k - length bytes) 0 in
      let at : length bytes + (k - length bytes) ≡ k = omega arith in
      let f = rw at at e in
      omega (arith, b (k - length bytes))
]
