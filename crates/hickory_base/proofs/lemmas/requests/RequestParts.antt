-- The question section of a request stands behind its header.
use Rattle.std.proofs.Common.{◌≡◌, ℕ, List, [], Ok, sym, ap, subst, ◌∙◌, slice_range}
use Rattle.wire_names.specs.serialize.layout.Bytes.{AreBytes}
use Rattle.wire_messages.specs.serialize.reading.Cursor.{Cursor}
use Rattle.wire_messages.specs.serialize.layout.MessageLayout.{ItemsAt, QuestionRead}
use Rattle.wire_reading.specs.serialize.reading.MessageReading.{front_of}
use Rattle.wire_messages.specs.serialize.reading.RecordReading.{question}
use Rattle.wire_messages.specs.serialize.reading.SectionReading.{items}
use Rattle.wire_messages.specs.declared.op.query.Query.{Query}
use Rattle.wire_reading.proofs.lemmas.serialize.reading.CountedItems.{at_place, items_found}
use Rattle.wire_reading.proofs.lemmas.serialize.reading.HeaderLaws.{header_found}
use Rattle.wire_reading.proofs.lemmas.serialize.reading.SectionItems.{questions_find}
use Rattle.wire_messages.proofs.lemmas.serialize.reading.StringSteps.{bind_ok, ok_is}
use Rattle.hickory_base.specs.requests.Questions.{QuestionSection}
use Rattle.hickory_base.specs.requests.RequestReading.{question_section, FollowsHeader, IsQuestionSection}

-- the questions, and the bytes from the first to the place behind the last
abbrev section_of : Cursor → List Query × Cursor → QuestionSection × Cursor
section_of c queries = (record { queries = queries.0; bytes = slice_range c.bytes c.place queries.1.place }, queries.1)

-- a section that was read at the place behind the header stands there
stands_at : (bytes : List ℕ) (count : ℕ) (c next : Cursor) (section : QuestionSection) → AreBytes bytes → c.bytes ≡ bytes → question_section count c ≡ Ok (section, next)
    → (stop : ℕ) × ItemsAt (QuestionRead bytes) c.place section.queries stop × (section.bytes ≡ slice_range bytes c.place stop)
unfolding question_section
stands_at bytes count c next section a kept e =
    let b = bind_ok (items question count [] c) (λ queries. Ok (section_of c queries)) (section, next) e in
    let same : section_of c b.0 ≡ (section, next) = ok_is (section_of c b.0) (section, next) b.2 in
    let f = items_found bytes question (QuestionRead bytes) (questions_find bytes a) count [] c.place b.0.0 b.0.1 (at_place (items question count []) c kept b.0 b.1) in
    let queries : f.more ≡ section.queries = sym f.whole ∙ ap (λ (x : QuestionSection × Cursor). x.0.queries) same in
    let is : section.bytes ≡ slice_range bytes c.place b.0.1.place = sym (ap (λ (x : QuestionSection × Cursor). x.0.bytes) same) ∙ ap (λ l. slice_range l c.place b.0.1.place) kept in
    (b.0.1.place, subst (λ (qs : List Query). ItemsAt (QuestionRead bytes) c.place qs b.0.1.place) queries f.stand, is)

-- behind the header are twelve bytes
pub section_stands : (bytes : List ℕ) (section : QuestionSection) → AreBytes bytes → FollowsHeader (front_of bytes) section → IsQuestionSection bytes section
section_stands bytes section a f =
    let h = header_found bytes f.read.0 f.read.1 a f.header_is_read in
    let s = stands_at bytes f.read.0.counts.queries f.read.1 f.next section a h.2 f.is_read in
    record {
      stop = s.0;
      stand = subst (λ (p : ℕ). ItemsAt (QuestionRead bytes) p section.queries s.0) h.1 s.1;
      bytes_are = s.2 ∙ ap (λ p. slice_range bytes p s.0) h.1;
    }
