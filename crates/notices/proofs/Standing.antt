-- The octets of a notice stand as its message.
use Rattle.std.proofs.Common.{◌≡◌, ℕ, ◌+◌, ◌<◌, ◌≤◌, ◌^◌, Bool, true, false, cond, List, [], ◌∷◌, ◌++◌, length, refl, ap, subst, arith, length-append}
use Rattle.std.specs.Prelude.{slice_index}
use Rattle.std.proofs.lemmas.Bool.{leb-true}
use Rattle.wire_names.specs.rr.domain.DomainName.{AreLabels, DomainName, name_len}
use Rattle.wire_names.specs.serialize.layout.Bytes.{BytesAt}
use Rattle.wire_messages.specs.serialize.layout.HeaderLayout.{header_octets}
use Rattle.wire_messages.specs.serialize.layout.MessageLayout.{QuestionRead}
use Rattle.wire_messages.specs.serialize.layout.RecordLayout.{RecordAt}
use Rattle.wire_messages.specs.serialize.writing.FullForm.{record_octets}
use Rattle.wire_messages.specs.serialize.writing.QuestionForm.{question_octets}
use Rattle.wire_messages.specs.serialize.writing.RecordSize.{full_size}
use Rattle.wire_messages.specs.declared.rr.rdata.SOA.{SOA}
use Rattle.wire_reading.specs.serialize.layout.WholeMessage.{MessageAt}
use Rattle.wire_messages.proofs.lemmas.serialize.layout.ByteTexts.{BytesAt-left, BytesAt-right}
use Rattle.wire_reading.proofs.lemmas.serialize.reading.HeaderLaws.{header_stands}
use Rattle.wire_reading.proofs.lemmas.serialize.reading.RecordsAgree.{formed_record}
use Rattle.wire_writing.proofs.lemmas.serialize.writing.FullForms.{question_octets-len, question_stands, record_stands}
use Rattle.notices.specs.Messages.{HasForm, bare_octets, full_octets, has_soa, notice_header, notice_message, notice_octets, question_of, soa_record}

whole_text : (bytes : List ℕ) → BytesAt bytes 0 bytes
whole_text bytes = record { fits = omega arith; same = λ k lt. ap (λ i. slice_index bytes i) (omega arith) }

question_read : (bytes : List ℕ) (id ttl : ℕ) (zone : DomainName) (soa : SOA) → HasForm id zone ttl soa → BytesAt bytes 12 (question_octets (question_of zone))
    → QuestionRead bytes 12 (question_of zone) (12 + length (question_octets (question_of zone)))
question_read bytes id ttl zone soa f s = record {
  stands = question_stands bytes 0 12 (question_of zone) f.apex.0 (omega arith) s;
  formed = record { name = f.apex.1; query_type = omega arith; query_class = omega arith };
}

record_read : (bytes : List ℕ) (place id ttl : ℕ) (zone : DomainName) (soa : SOA) → HasForm id zone ttl soa → BytesAt bytes place (record_octets (soa_record zone ttl soa))
    → RecordAt bytes place (soa_record zone ttl soa) (place + full_size (soa_record zone ttl soa))
record_read bytes place id ttl zone soa f s =
    let r = soa_record zone ttl soa in
    let mname = f.mname.0 in
    let rname = f.rname.0 in
    let small : name_len soa.mname.labels + name_len soa.rname.labels + 20 < 2 ^ 16 = omega (arith, mname.short, rname.short) in
    formed_record 0 bytes place (place + full_size r) r
    (record { name = f.apex.1; class = omega arith; ttl = f.ttl_fits; rdata = (f.numbers, (f.mname.1, f.rname.1)); proof = refl })
    (record_stands bytes 0 place (place + full_size r) r f.apex.0 (mname, rname) small (omega arith) s refl)

full_stands : (id ttl : ℕ) (zone : DomainName) (soa : SOA) → HasForm id zone ttl soa
    → MessageAt (full_octets id zone ttl soa) (record (notice_message id zone ttl soa) { answers = soa_record zone ttl soa ∷ [] })
full_stands id ttl zone soa f =
    let h = header_octets (notice_header id 1) in
    let q = question_octets (question_of zone) in
    let r = record_octets (soa_record zone ttl soa) in
    let bytes = full_octets id zone ttl soa in
    let front = BytesAt-left bytes 0 (h ++ q) r (whole_text bytes) in
    let behind : BytesAt bytes (12 + length q) r = subst (λ (p : ℕ). BytesAt bytes p r) (omega (arith, length-append h q)) (BytesAt-right bytes 0 (h ++ q) r (whole_text bytes)) in
    let stop = 12 + length q + full_size (soa_record zone ttl soa) in
    record {
      header = notice_header id 1;
      all = [];
      answers_at = 12 + length q;
      authorities_at = stop;
      additionals_at = stop;
      stop = stop;
      header_stands = header_stands bytes (notice_header id 1) f.id_fits (omega arith) (record { queries = omega arith; answers = omega arith; authorities = omega arith; additionals = omega arith }) (BytesAt-left bytes 0 h q front);
      queries = (12 + length q, question_read bytes id ttl zone soa f (BytesAt-right bytes 0 h q front), refl);
      answers = (stop, record_read bytes (12 + length q) id ttl zone soa f behind, refl);
      authorities = refl;
      additionals = refl;
      query_count = refl;
      answer_count = refl;
      authority_count = refl;
      additional_count = refl;
      answers_plain = (refl, tt);
      authorities_plain = tt;
      section = record { unsigned = []; opts = []; signature_last = refl; one_signature = refl; opt_records = refl; others = refl; one_opt = refl };
      metadata = refl;
    }

bare_stands : (id ttl : ℕ) (zone : DomainName) (soa : SOA) → HasForm id zone ttl soa
    → MessageAt (bare_octets id zone 0) (record (notice_message id zone ttl soa) { answers = [] })
bare_stands id ttl zone soa f =
    let h = header_octets (notice_header id 0) in
    let q = question_octets (question_of zone) in
    let bytes = bare_octets id zone 0 in
    let stop = 12 + length q in
    record {
      header = notice_header id 0;
      all = [];
      answers_at = stop;
      authorities_at = stop;
      additionals_at = stop;
      stop = stop;
      header_stands = header_stands bytes (notice_header id 0) f.id_fits (omega arith) (record { queries = omega arith; answers = omega arith; authorities = omega arith; additionals = omega arith }) (BytesAt-left bytes 0 h q (whole_text bytes));
      queries = (stop, question_read bytes id ttl zone soa f (BytesAt-right bytes 0 h q (whole_text bytes)), refl);
      answers = refl;
      authorities = refl;
      additionals = refl;
      query_count = refl;
      answer_count = refl;
      authority_count = refl;
      additional_count = refl;
      answers_plain = tt;
      authorities_plain = tt;
      section = record { unsigned = []; opts = []; signature_last = refl; one_signature = refl; opt_records = refl; others = refl; one_opt = refl };
      metadata = refl;
    }

either_stands : (id ttl : ℕ) (zone : DomainName) (soa : SOA) → HasForm id zone ttl soa → (b : Bool)
    → MessageAt (cond b (full_octets id zone ttl soa) (bare_octets id zone 0))
    (record (notice_message id zone ttl soa) { answers = cond b (soa_record zone ttl soa ∷ []) [] })
either_stands id ttl zone soa f true = full_stands id ttl zone soa f
either_stands id ttl zone soa f false = bare_stands id ttl zone soa f

pub notice_stands : (id ttl : ℕ) (zone : DomainName) (soa : SOA) → HasForm id zone ttl soa → MessageAt (notice_octets id zone ttl soa) (notice_message id zone ttl soa)
notice_stands id ttl zone soa f = either_stands id ttl zone soa f (has_soa id zone ttl soa)

pub bare_short : (id : ℕ) (zone : DomainName) (bytes : List ℕ) → name_len zone.labels ≤ 255 → bytes ≡ bare_octets id zone 0 → length bytes ≤ 512
bare_short id zone bytes short e =
    omega (arith, short, ap length e, length-append (header_octets (notice_header id 0)) (question_octets (question_of zone)), question_octets-len (question_of zone))

either_short : (id ttl : ℕ) (zone : DomainName) (soa : SOA) → AreLabels zone.labels → (b : Bool) → has_soa id zone ttl soa ≡ b
    → length (cond b (full_octets id zone ttl soa) (bare_octets id zone 0)) ≤ 512
either_short id ttl zone soa a true e = leb-true (length (full_octets id zone ttl soa)) 512 e
either_short id ttl zone soa a false e = bare_short id zone (bare_octets id zone 0) a.short refl

-- a notice is as short as UDP needs it
pub notice_short : (id ttl : ℕ) (zone : DomainName) (soa : SOA) → AreLabels zone.labels → length (notice_octets id zone ttl soa) ≤ 512
notice_short id ttl zone soa a = either_short id ttl zone soa a (has_soa id zone ttl soa) refl
