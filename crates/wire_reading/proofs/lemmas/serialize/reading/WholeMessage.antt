-- A message is read exactly where it stands at the front of bytes.
use Rattle.std.proofs.Common.{◌≡◌, ℕ, List, [], ◌++◌, length, Ok, refl, sym, ap, subst, ◌∙◌}
use Rattle.wire_names.specs.serialize.layout.Bytes.{AreBytes}
use Rattle.wire_messages.specs.serialize.reading.Cursor.{Cursor}
use Rattle.wire_messages.specs.serialize.layout.HeaderLayout.{HeaderAt}
use Rattle.wire_messages.specs.serialize.layout.MessageLayout.{ItemsAt, QuestionRead, high_code, with_high_code}
use Rattle.wire_reading.specs.serialize.layout.WholeMessage.{MessageAt}
use Rattle.wire_reading.specs.serialize.reading.MessageReading.{message, front_of}
use Rattle.wire_messages.specs.serialize.reading.Reading.{Read, ◌>>=◌}
use Rattle.wire_messages.specs.serialize.reading.RecordReading.{question}
use Rattle.wire_messages.specs.serialize.reading.SectionReading.{Additionals, header, items, section_record, additionals_after, no_additionals}
use Rattle.wire_messages.specs.declared.op.header.Header.{Header}
use Rattle.wire_messages.specs.declared.op.header.Metadata.{Metadata}
use Rattle.wire_reading.specs.declared.op.message.Message.{Message}
use Rattle.wire_messages.specs.declared.op.query.Query.{Query}
use Rattle.wire_messages.specs.declared.rr.rdata.RData.{RData}
use Rattle.wire_messages.specs.declared.rr.record.Record.{Record}
use Rattle.wire_reading.proofs.lemmas.serialize.reading.AdditionalItems.{Section, section_read, section_here}
use Rattle.wire_messages.proofs.lemmas.serialize.layout.ByteTexts.{here, read_here}
use Rattle.wire_reading.proofs.lemmas.serialize.reading.CountedItems.{Found, at_place, items_found, items_here}
use Rattle.wire_reading.proofs.lemmas.serialize.reading.HeaderLaws.{header_here, header_found}
use Rattle.wire_reading.proofs.lemmas.serialize.reading.SectionItems.{PlainAt, questions_find, questions_reach, plain_find, plain_reach, plain_parts, plain_whole}
use Rattle.wire_messages.proofs.lemmas.serialize.reading.StringSteps.{wrap, ok_is, bind_ok}

-- the message of what was read
abbrev message_of : Header → List Query → List (Record RData) → List (Record RData) → Additionals → Message
message_of h queries answers authorities extras = record {
  metadata = with_high_code h.metadata (high_code extras.edns);
  queries = queries;
  answers = answers;
  authorities = authorities;
  additionals = extras.records;
  edns = extras.edns;
  signature = extras.signature;
}

-- the steps that are left after some
abbrev after_authorities : Header → List Query → List (Record RData) → List (Record RData) × Cursor → Read Message
after_authorities h queries answers authorities = additionals_after h.counts.additionals no_additionals authorities.1 >>= λ extras. Ok (message_of h queries answers authorities.0 extras.0, extras.1)

abbrev after_answers : Header → List Query → List (Record RData) × Cursor → Read Message
after_answers h queries answers = items section_record h.counts.authorities [] answers.1 >>= after_authorities h queries answers.0

abbrev after_queries : Header → List Query × Cursor → Read Message
after_queries h queries = items section_record h.counts.answers [] queries.1 >>= after_answers h queries.0

abbrev after_header : Header × Cursor → Read Message
after_header h = items question h.0.counts.queries [] h.1 >>= after_queries h.0

-- so many items that were read first, from a cursor in the bytes
items_read : {A : Type 0} (bytes : List ℕ) (read : Cursor → Read A) (at : ℕ → A → ℕ → Type 0)
    → ((n : ℕ) (before : List A) (place : ℕ) (all : List A) (next : Cursor) → items read n before (here bytes place) ≡ Ok (all, next) → Found bytes at n before place all next)
    → (n : ℕ) (c : Cursor) → c.bytes ≡ bytes → (all : List A) (next : Cursor) → items read n [] c ≡ Ok (all, next) → ItemsAt at c.place all next.place × (length all ≡ n) × (next.bytes ≡ bytes)
items_read bytes read at found n c kept all next e =
    let f = found n [] c.place all next (at_place (items read n []) c kept (all, next) e) in
    (subst (λ xs. ItemsAt at c.place xs next.place) (sym f.whole) f.stand, ap length f.whole ∙ f.count, f.kept)

-- what was read, one behind the other, is a message that stands there
parts_stand : (bytes : List ℕ) (h : Header) (queries : List Query) (answers authorities : List (Record RData)) (extras : Additionals) (c2 c3 c4 c5 : Cursor) → HeaderAt bytes h
    → ItemsAt (QuestionRead bytes) 12 queries c2.place → length queries ≡ h.counts.queries → ItemsAt (PlainAt bytes) c2.place answers c3.place → length answers ≡ h.counts.answers
    → ItemsAt (PlainAt bytes) c3.place authorities c4.place → length authorities ≡ h.counts.authorities → Section bytes h.counts.additionals c4.place extras c5
    → MessageAt bytes (message_of h queries answers authorities extras)
parts_stand bytes h queries answers authorities extras c2 c3 c4 c5 at q nq a na u nu s =
    let pa = plain_parts bytes c2.place answers c3.place a in
    let pu = plain_parts bytes c3.place authorities c4.place u in
    record {
      header = h;
      all = s.all;
      answers_at = c2.place;
      authorities_at = c3.place;
      additionals_at = c4.place;
      stop = c5.place;
      header_stands = at;
      queries = q;
      answers = pa.0;
      authorities = pu.0;
      additionals = s.stand;
      query_count = nq;
      answer_count = na;
      authority_count = nu;
      additional_count = s.count;
      answers_plain = pa.1;
      authorities_plain = pu.1;
      section = s.section;
      metadata = refl;
    }

-- what was read is this message
is_message : (bytes : List ℕ) (y z : Message × Cursor) → wrap y ≡ wrap z → MessageAt bytes y.0 → MessageAt bytes z.0
is_message bytes y z e at = subst (λ (x : Message × Cursor). MessageAt bytes x.0) (ok_is y z e) at

-- items that stand at a place stand at the same place
items_from : {A : Type 0} (at : ℕ → A → ℕ → Type 0) (xs : List A) (p q next : ℕ) → p ≡ q → ItemsAt at p xs next → ItemsAt at q xs next
items_from at xs p q next e h = subst (λ (k : ℕ). ItemsAt at k xs next) e h

-- a message that is read stands at the front of the bytes
pub message_found : (bytes : List ℕ) → AreBytes bytes → (m : Message) (stop : Cursor) → message (front_of bytes) ≡ Ok (m, stop) → MessageAt bytes m
unfolding message
message_found bytes a m stop e =
    let b0 = bind_ok (header (front_of bytes)) after_header (m, stop) e in
    let h = header_found bytes b0.0.0 b0.0.1 a b0.1 in
    let b1 = bind_ok (items question b0.0.0.counts.queries [] b0.0.1) (after_queries b0.0.0) (m, stop) b0.2 in
    let q = items_read bytes question (QuestionRead bytes) (items_found bytes question (QuestionRead bytes) (questions_find bytes a)) b0.0.0.counts.queries b0.0.1 h.2 b1.0.0 b1.0.1 b1.1 in
    let b2 = bind_ok (items section_record b0.0.0.counts.answers [] b1.0.1) (after_answers b0.0.0 b1.0.0) (m, stop) b1.2 in
    let r = items_read bytes section_record (PlainAt bytes) (items_found bytes section_record (PlainAt bytes) (plain_find bytes a)) b0.0.0.counts.answers b1.0.1 q.2 b2.0.0 b2.0.1 b2.1 in
    let b3 = bind_ok (items section_record b0.0.0.counts.authorities [] b2.0.1) (after_authorities b0.0.0 b1.0.0 b2.0.0) (m, stop) b2.2 in
    let u = items_read bytes section_record (PlainAt bytes) (items_found bytes section_record (PlainAt bytes) (plain_find bytes a)) b0.0.0.counts.authorities b2.0.1 r.2 b3.0.0 b3.0.1 b3.1 in
    let b4 = bind_ok (additionals_after b0.0.0.counts.additionals no_additionals b3.0.1) (λ extras. Ok (message_of b0.0.0 b1.0.0 b2.0.0 b3.0.0 extras.0, extras.1)) (m, stop) b3.2 in
    let s = section_read bytes a b0.0.0.counts.additionals b3.0.1.place b4.0.0 b4.0.1 (at_place (additionals_after b0.0.0.counts.additionals no_additionals) b3.0.1 u.2 b4.0 b4.1) in
    let first = items_from (QuestionRead bytes) b1.0.0 b0.0.1.place 12 b1.0.1.place h.1 q.0 in
    let at = parts_stand bytes b0.0.0 b1.0.0 b2.0.0 b3.0.0 b4.0.0 b1.0.1 b2.0.1 b3.0.1 b4.0.1 h.0 first q.1 r.0 r.1 u.0 u.1 s in
    is_message bytes (message_of b0.0.0 b1.0.0 b2.0.0 b3.0.0 b4.0.0, b4.0.1) (m, stop) b4.2 at

-- so many items that stand there, read
counted_here : {A : Type 0} (bytes : List ℕ) (read : Cursor → Read A) (at : ℕ → A → ℕ → Type 0)
    → ((xs before : List A) (place next : ℕ) → ItemsAt at place xs next → items read (length xs) before (here bytes place) ≡ read_here (before ++ xs) bytes next)
    → (n : ℕ) (xs : List A) (place next : ℕ) → length xs ≡ n → ItemsAt at place xs next → items read n [] (here bytes place) ≡ read_here xs bytes next
counted_here bytes read at reach n xs place next count stand = subst (λ (k : ℕ). items read k [] (here bytes place) ≡ read_here xs bytes next) count (reach xs [] place next stand)

-- a message that stands at the front of the bytes is read, as far as it stands there
pub message_here : (bytes : List ℕ) → AreBytes bytes → (m : Message) (at : MessageAt bytes m) → message (front_of bytes) ≡ read_here m bytes at.stop
unfolding message
message_here bytes a m at =
    let h = at.header in
    let x : Additionals = record { records = m.additionals; edns = m.edns; signature = m.signature } in
    let plain = items_here bytes section_record (PlainAt bytes) (plain_reach bytes a) in
    let q = counted_here bytes question (QuestionRead bytes) (items_here bytes question (QuestionRead bytes) (questions_reach bytes a)) h.counts.queries m.queries 12 at.answers_at at.query_count at.queries in
    let r = counted_here bytes section_record (PlainAt bytes) plain h.counts.answers m.answers at.answers_at at.authorities_at at.answer_count
    (plain_whole bytes at.answers_at m.answers at.authorities_at at.answers at.answers_plain) in
    let u = counted_here bytes section_record (PlainAt bytes) plain h.counts.authorities m.authorities at.authorities_at at.additionals_at at.authority_count
    (plain_whole bytes at.authorities_at m.authorities at.additionals_at at.authorities at.authorities_plain) in
    let s = section_here bytes a at.all h.counts.additionals at.additionals_at x at.stop at.additional_count at.additionals at.section in
    rw (header_here bytes h at.header_stands, q, r, u, s) (ap (λ (d : Metadata). read_here (record m { metadata = d }) bytes at.stop) (sym at.metadata))
