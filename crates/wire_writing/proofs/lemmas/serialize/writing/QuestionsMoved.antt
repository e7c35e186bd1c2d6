-- A question that was read behind the header of a request stands in the bytes of its reply, and so do questions in
-- full.
use Rattle.std.proofs.Common.{◌≡◌, ℕ, ◌+◌, ◌-◌, ◌<◌, ◌≤◌, List, [], ◌∷◌, ◌++◌, length, get_or, take, drop, replicate, sym, ap, subst, ◌∙◌, arith, length-append}
use Rattle.std.proofs.lemmas.List.{get_or-append-add, get_or-drop, get_or-take, length-drop, length-take}
use Rattle.std.specs.Prelude.{slice_range}
use Rattle.std.specs.List.{AllByRecursion, flat_map}
use Rattle.wire_names.specs.serialize.layout.Bytes.{BytesAt, KeepsFrom}
use Rattle.wire_names.specs.rr.domain.DomainName.{AreLabels}
use Rattle.wire_messages.specs.serialize.layout.MessageLayout.{ItemsAt}
use Rattle.wire_messages.specs.serialize.layout.NameLayout.{LabelsAt}
use Rattle.wire_messages.specs.serialize.layout.NameLayout.LabelsAt.{at_end, at_label, at_pointer}
use Rattle.wire_messages.specs.serialize.writing.QuestionForm.{question_octets}
use Rattle.wire_messages.specs.serialize.layout.QuestionLayout.{QuestionAt}
use Rattle.wire_messages.specs.declared.op.query.Query.{Query}
use Rattle.wire_messages.proofs.lemmas.serialize.layout.ByteTexts.{BytesAt-left, BytesAt-right}
use Rattle.wire_messages.proofs.lemmas.serialize.layout.FormKeeps.{LabelsAt-longer, QuestionAt-keeps}
use Rattle.wire_writing.proofs.lemmas.serialize.writing.FullForms.{question_stands}

-- each byte from a place up to another is the same
pub record Agree (from to : ℕ) (old new : List ℕ) : Type 0 where
  pub long : to ≤ length new
  pub same : (k : ℕ) → from ≤ k → k < to → get_or new k 0 ≡ get_or old k 0

text_moves : {old new text : List ℕ} {from to place : ℕ} → Agree from to old new → from ≤ place → place + length text ≤ to → BytesAt old place text → BytesAt new place text
text_moves {old} {new} {text} {from} {to} {place} agree above below s = record {
  fits = omega (arith, agree.long);
  same = λ k lt. agree.same (place + k) (omega arith) (omega arith) ∙ s.same k lt;
}

-- a run of labels that began at the floor has no pointer, and stands wherever its bytes stand
labels_move : {old new : List ℕ} {floor to start place next : ℕ} {labels : List (List ℕ)} → Agree floor to old new → start ≤ floor → next ≤ to → LabelsAt floor old start place labels next → LabelsAt floor new start place labels next
labels_move agree le below (at_end a s e) = at_end a (text_moves agree a (omega arith) s) e
labels_move agree le below (at_label a l s e more) =
    let m = LabelsAt-longer more in
    at_label a l (text_moves agree a (omega (arith, m.0)) s) e (labels_move agree le below more)
labels_move agree le below (at_pointer high low goal past a s e lt after more) = let m = LabelsAt-longer more in absurd (omega (arith, m.2))

question_moves : {old new : List ℕ} {place next : ℕ} {q : Query} → Agree place next old new → QuestionAt place old place q next → QuestionAt place new place q next
question_moves {old} {new} {place} {next} {q} agree at =
    let m = LabelsAt-longer at.name.labels in
    record {
      middle = at.middle;
      name = record { labels = labels_move agree (omega arith) (omega (arith, at.after)) at.name.labels; short = at.name.short };
      fields = text_moves agree (omega (arith, m.0)) (omega (arith, at.after)) at.fields;
      after = at.after;
    }

-- the bytes of a request from place 12 on stand behind room for a header
repeated : (bytes : List ℕ) (stop : ℕ) → 12 ≤ stop → stop ≤ length bytes → Agree 12 stop bytes (replicate 12 0 ++ slice_range bytes 12 stop)
repeated bytes stop low high =
    let part = take (stop - 12) (drop 12 bytes) in
    let size : length part ≡ stop - 12 = omega (arith, length-take (stop - 12) (drop 12 bytes), length-drop 12 bytes) in
    record {
      long = omega (arith, length-append (replicate 12 0) part, size);
      same = λ k above below.
          ap (λ i. get_or (replicate 12 0 ++ part) i 0) (omega arith) ∙ get_or-append-add (replicate 12 0) part (k - 12) 0 ∙ get_or-take (stop - 12) (drop 12 bytes) (k - 12) 0 (omega arith)
          ∙ get_or-drop 12 bytes (k - 12) 0 ∙ ap (λ i. get_or bytes i 0) (omega arith);
    }

-- the question of a request stands in its reply
pub question_repeated : (bytes : List ℕ) (q : Query) (stop : ℕ) → QuestionAt 12 bytes 12 q stop → QuestionAt 12 (replicate 12 0 ++ slice_range bytes 12 stop) 12 q stop
question_repeated bytes q stop at =
    let m = LabelsAt-longer at.name.labels in
    question_moves (repeated bytes stop (omega (arith, m.0, at.after)) (omega (arith, at.fields.fits, at.after))) at

items_keep : (old new : List ℕ) (queries : List Query) (place next : ℕ) → KeepsFrom 12 old new → ItemsAt (QuestionAt 12 old) place queries next → ItemsAt (QuestionAt 12 new) place queries next
items_keep old new [] place next k e = e
items_keep old new (q ∷ qs) place next k (middle, one, more) = (middle, QuestionAt-keeps k (omega arith) one, items_keep old new qs middle next k more)

items_longer : (floor : ℕ) (bytes : List ℕ) (queries : List Query) (place next : ℕ) → ItemsAt (QuestionAt floor bytes) place queries next → place ≤ next
items_longer floor bytes [] place next e = omega (arith, e)
items_longer floor bytes (q ∷ qs) place next (middle, one, more) =
    let l = LabelsAt-longer one.name.labels in
    omega (arith, l.0, one.after, items_longer floor bytes qs middle next more)

-- the questions of a request of which nothing is read behind the last of them stand in its reply
pub questions_repeated : (bytes : List ℕ) (queries : List Query) (stop : ℕ) → stop ≤ length bytes → ItemsAt (QuestionAt 12 (take stop bytes)) 12 queries stop
    → ItemsAt (QuestionAt 12 (replicate 12 0 ++ slice_range bytes 12 stop)) 12 queries stop × (length (replicate 12 0 ++ slice_range bytes 12 stop) ≡ stop)
questions_repeated bytes queries stop high at =
    let part = take (stop - 12) (drop 12 bytes) in
    let low = items_longer 12 (take stop bytes) queries 12 stop at in
    let agree = repeated bytes stop low high in
    let front : length (take stop bytes) ≡ stop = omega (arith, length-take stop bytes) in
    let size : length (replicate 12 0 ++ part) ≡ stop = omega (arith, length-append (replicate 12 0) part, length-take (stop - 12) (drop 12 bytes), length-drop 12 bytes) in
    let keeps : KeepsFrom 12 (take stop bytes) (replicate 12 0 ++ part) = record {
      longer = omega (arith, front, size);
      same = λ k above below. agree.same k above (omega (arith, front)) ∙ sym (get_or-take stop bytes k 0 (omega (arith, front)));
    } in
    (items_keep (take stop bytes) (replicate 12 0 ++ part) queries 12 stop keeps at, size)

-- questions in full stand one behind the other
pub questions_in_full : (bytes : List ℕ) (floor place : ℕ) (queries : List Query) → AllByRecursion (λ q. AreLabels q.name.labels) queries → floor ≤ place → BytesAt bytes place (flat_map question_octets queries)
    → ItemsAt (QuestionAt floor bytes) place queries (place + length (flat_map question_octets queries))
questions_in_full bytes floor place [] are low s = omega arith
questions_in_full bytes floor place (q ∷ qs) are low s =
    let one = question_octets q in
    let others = flat_map question_octets qs in
    let middle = place + length one in
    let rest = questions_in_full bytes floor middle qs are.1 (omega arith) (BytesAt-right bytes place one others s) in
    (middle, question_stands bytes floor place q are.0 low (BytesAt-left bytes place one others s), subst (λ n. ItemsAt (QuestionAt floor bytes) middle qs n) (omega (arith, length-append one others)) rest)
