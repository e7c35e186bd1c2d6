-- Which questions of a request a reply can repeat.
use Rattle.std.proofs.Common.{◌≡◌, ℕ, ◌+◌, ◌-◌, ◌≤◌, List, [], ◌∷◌, length, take, drop, sym, ap, subst, ◌∙◌, arith}
use Rattle.std.proofs.lemmas.List.{get_or-take, length-take, take-append-drop}
use Rattle.std.specs.Prelude.{slice_range}
use Rattle.std.specs.List.{AllByRecursion, flat_map}
use Rattle.wire_names.specs.rr.domain.DomainName.{AreLabels}
use Rattle.wire_names.specs.serialize.layout.Bytes.{BytesAt, KeepsFrom}
use Rattle.wire_messages.specs.serialize.layout.MessageLayout.{ItemsAt, QuestionRead}
use Rattle.wire_messages.specs.serialize.layout.QuestionLayout.{QuestionAt, IsFormedQuestion}
use Rattle.wire_messages.specs.serialize.writing.QuestionForm.{question_octets}
use Rattle.wire_messages.specs.declared.op.query.Query.{Query}
use Rattle.wire_messages.proofs.lemmas.serialize.layout.ByteTexts.{take_stands}
use Rattle.wire_messages.proofs.lemmas.serialize.layout.FormKeeps.{LabelsAt-longer, QuestionAt-keeps}
use Rattle.wire_messages.proofs.lemmas.serialize.layout.Stable.{KeepsFrom-append}
use Rattle.wire_reading.specs.declared.op.message.Message.{Message}
use Rattle.wire_reading.specs.serialize.layout.WholeMessage.{MessageAt}
use Rattle.wire_reading.proofs.lemmas.serialize.reading.RecordsAgree.{one_question}
use Rattle.wire_writing.proofs.lemmas.serialize.writing.QuestionsMoved.{questions_in_full}
use Rattle.hickory_wire.proofs.lemmas.serialize.writing.ReadingBack.{name_labels}
use Rattle.hickory_base.specs.requests.RepeatableQuestions.{AreRepeatable, HasRepeatableQuestions}
use Rattle.hickory_base.specs.requests.RequestReading.{IsQuestionSection, message_of}
use Rattle.hickory_base.specs.requests.Requests.{ReceivedRequest}

-- what stands in the front of bytes stands in the bytes
front_keeps : (n : ℕ) (bytes : List ℕ) → KeepsFrom 12 (take n bytes) bytes
front_keeps n bytes = subst (λ (b : List ℕ). KeepsFrom 12 (take n bytes) b) (take-append-drop n bytes) (KeepsFrom-append 12 (take n bytes) (drop n bytes))

-- questions that stand in the front end where they are read to end
same_stop : (bytes : List ℕ) (n : ℕ) (queries : List Query) (place stop next : ℕ) → ItemsAt (QuestionAt 12 (take n bytes)) place queries stop → ItemsAt (QuestionRead bytes) place queries next → stop ≡ next
same_stop bytes n [] place stop next a b = a ∙ sym b
same_stop bytes n (q ∷ qs) place stop next (one, stands, more) (two, read, others) =
    let there : QuestionAt 12 bytes place q one = QuestionAt-keeps (front_keeps n bytes) (omega arith) stands in
    let same : one ≡ two = (one_question bytes 12 0 place one two q q read.formed read.formed there read.stands).1 in
    same_stop bytes n qs two stop next (subst (λ (p : ℕ). ItemsAt (QuestionAt 12 (take n bytes)) p qs stop) same more) others

all_formed : (bytes : List ℕ) (queries : List Query) (place next : ℕ) → ItemsAt (QuestionRead bytes) place queries next → AllByRecursion IsFormedQuestion queries
all_formed bytes [] place next at = tt
all_formed bytes (q ∷ qs) place next (middle, read, more) = (read.formed, all_formed bytes qs middle next more)

all_labels : (bytes : List ℕ) (queries : List Query) (place next : ℕ) → ItemsAt (QuestionRead bytes) place queries next → AllByRecursion (λ (q : Query). AreLabels q.name.labels) queries
all_labels bytes [] place next at = tt
all_labels bytes (q ∷ qs) place next (middle, read, more) = let stands = read.stands in (name_labels stands.name, all_labels bytes qs middle next more)

-- questions that are read end within the bytes
all_within : (bytes : List ℕ) (queries : List Query) (place next : ℕ) → place ≤ length bytes → ItemsAt (QuestionRead bytes) place queries next → (place ≤ next) × (next ≤ length bytes)
all_within bytes [] place next low at = (omega arith, omega arith)
all_within bytes (q ∷ qs) place next low (middle, read, more) =
    let stands = read.stands in
    let labels = LabelsAt-longer stands.name.labels in
    let rest = all_within bytes qs middle next (omega (arith, stands.after, stands.fields.fits)) more in
    (omega (arith, labels.0, stands.after, rest.0), rest.1)

header_fits : {bytes : List ℕ} {m : Message} → MessageAt bytes m → 12 ≤ length bytes
header_fits at = omega (arith, at.header_stands.stands.fits)

pub repeatable : (bytes : List ℕ) (request : ReceivedRequest) → MessageAt bytes (message_of request.message) → IsQuestionSection bytes request.message.queries → request.bytes ≡ bytes → AreRepeatable bytes request.message.queries.queries → HasRepeatableQuestions request
repeatable bytes request at section raw r =
    let queries = request.message.queries.queries in
    let same : r.stop ≡ section.stop = same_stop bytes r.stop queries 12 r.stop section.stop r.stand section.stand in
    let fits : 12 ≤ length bytes = header_fits at in
    let within = all_within bytes queries 12 section.stop fits section.stand in
    record {
      stop = r.stop;
      within = omega (arith, ap length raw, same, within.1);
      stand = subst (λ (b : List ℕ). ItemsAt (QuestionAt 12 (take r.stop b)) 12 queries r.stop) (sym raw) r.stand;
      formed = all_formed bytes queries 12 section.stop section.stand;
      bytes_are = section.bytes_are ∙ ap (λ n. slice_range bytes 12 n) (sym same) ∙ ap (λ b. slice_range b 12 r.stop) (sym raw);
    }

-- a text that ends within the front of bytes stands there
front_stands : (bytes : List ℕ) (n place : ℕ) (text : List ℕ) → place + length text ≤ n → BytesAt bytes place text → BytesAt (take n bytes) place text
front_stands bytes n place text within s = record {
  fits = omega (arith, s.fits, length-take n bytes);
  same = λ k lt. get_or-take n bytes (place + k) 0 (omega arith) ∙ s.same k lt;
}

pub in_full : (bytes : List ℕ) (request : ReceivedRequest) → MessageAt bytes (message_of request.message) → IsQuestionSection bytes request.message.queries → request.message.queries.bytes ≡ flat_map question_octets request.message.queries.queries
    → AreRepeatable bytes request.message.queries.queries
in_full bytes request at section full =
    let queries = request.message.queries.queries in
    let text = flat_map question_octets queries in
    let fits : 12 ≤ length bytes = header_fits at in
    let within = all_within bytes queries 12 section.stop fits section.stand in
    let is : slice_range bytes 12 section.stop ≡ text = sym section.bytes_are ∙ full in
    let stands : BytesAt bytes 12 text = subst (λ (t : List ℕ). BytesAt bytes 12 t) is (take_stands bytes 12 (section.stop - 12) (omega (arith, within.0, within.1))) in
    record {
      stop = 12 + length text;
      stand = questions_in_full (take (12 + length text) bytes) 12 12 queries (all_labels bytes queries 12 section.stop section.stand) (omega arith) (front_stands bytes (12 + length text) 12 text (omega arith) stands);
    }
