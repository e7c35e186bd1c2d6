-- The steps of noting the name of a question.
use Rattle.std.proofs.Common.{◌≡◌, ℕ, ◌+◌, ◌<◌, ◌≤◌, List, [], ◌∷◌, ◌++◌, length, take, get_or, replicate, Some, refl, sym, ap, ◌∙◌, subst, arith, length-append}
use Rattle.std.proofs.lemmas.List.{append_assoc, get_or-append-add}
use Rattle.std.proofs.lemmas.List.Elements.{All-nil, All-cons, All-push, All-tail, recursion_from_All}
use Rattle.std.proofs.lemmas.Option.{slice_get-get_or}
use Rattle.std.specs.List.{All}
use Rattle.wire_names.specs.rr.domain.DomainName.{IsLabel, IsWire, wire_form, name_len, cut}
use Rattle.wire_names.specs.serialize.layout.Bytes.{BytesAt}
use Rattle.wire_messages.specs.serialize.layout.NameLayout.{LabelsAt}
use Rattle.wire_messages.specs.serialize.reading.NameReading.{label_at}
use Rattle.wire_messages.specs.serialize.writing.FullForm.{name_octets}
use Rattle.wire_writing.specs.representation.Noted.{Notes, IsNote, AreNotes}
use Rattle.wire_writing.specs.representation.QuestionNames.{StandsInFull, ends_from}
use Rattle.wire_names.proofs.lemmas.rr.domain.WireForm.{cut_of, cut-wire, wire-push, is_wire_of, name_len-wire_form}
use Rattle.wire_messages.proofs.lemmas.serialize.layout.ByteTexts.{BytesAt-right, BytesAt-both, stands_take}
use Rattle.wire_messages.proofs.lemmas.serialize.layout.Stands.{label_len, stands_label, stands_one}
use Rattle.wire_writing.proofs.lemmas.serialize.writing.FullForms.{labels_stand}

-- so many labels that stand one behind the other from the front on, up to a place
pub record StandsSoFar (bytes : List ℕ) (place count : ℕ) : Type 0 where
  pub labels : List (List ℕ)
  pub are : All IsLabel labels
  pub stands : BytesAt bytes 0 (wire_form labels)
  pub at : place ≡ length (wire_form labels)
  pub counted : count ≡ length labels

pub so_far_none : (bytes : List ℕ) → StandsSoFar bytes 0 0
so_far_none bytes = record { labels = []; are = λ i x h. absurd (omega arith); stands = record { fits = omega arith; same = λ k lt. absurd (omega arith) }; at = refl; counted = refl }

pub so_far_more : (bytes : List ℕ) (place count : ℕ) → StandsSoFar bytes place count → 0 < get_or bytes place 0 → get_or bytes place 0 < 64 → place + 1 + get_or bytes place 0 ≤ length bytes → StandsSoFar bytes (place + 1 + get_or bytes place 0) (count + 1)
so_far_more bytes place count s low high fits =
    let n = get_or bytes place 0 in
    let label = label_at bytes place n in
    let len = label_len bytes place n fits in
    let front = wire_form s.labels in
    let size = length-append front (length label ∷ label) in
    let here : BytesAt bytes place (length label ∷ label) = stands_label bytes place n (slice_get-get_or bytes place 0 (omega arith)) fits in
    let behind : place ≡ 0 + length front = omega (arith, s.at) in
    let both : BytesAt bytes 0 (front ++ length label ∷ label) = BytesAt-both bytes 0 front (length label ∷ label) s.stands (subst (λ p. BytesAt bytes p (length label ∷ label)) behind here) in
    record {
      labels = s.labels ++ label ∷ [];
      are = All-push IsLabel s.labels label s.are (omega (arith, len), omega (arith, len));
      stands = subst (λ t. BytesAt bytes 0 t) (sym (wire-push s.labels label)) both;
      at = omega (arith, ap length (wire-push s.labels label), size, len, s.at);
      counted = omega (arith, s.counted, length-append s.labels (label ∷ []));
    }

pub so_far_ends : (bytes : List ℕ) (place count : ℕ) → StandsSoFar bytes place count → place < length bytes → place < 255 → get_or bytes place 0 ≡ 0 → StandsInFull bytes (take place bytes) count
so_far_ends bytes place count s lt small zero_here = let behind : place ≡ 0 + length (wire_form s.labels) = omega (arith, s.at) in record {
  labels = s.labels;
  are = record { each = s.are; short = omega (arith, name_len-wire_form s.labels, s.at, small) };
  stands = BytesAt-both bytes 0 (wire_form s.labels) (0 ∷ []) s.stands (subst (λ p. BytesAt bytes p (0 ∷ [])) behind (stands_one bytes place 0 (slice_get-get_or bytes place 0 lt ∙ ap Some zero_here)));
  is = ap (λ n. take n bytes) s.at ∙ stands_take bytes 0 (wire_form s.labels) s.stands;
  counted = s.counted;
}

-- what stands in the questions stands behind the header
behind_header : (question text : List ℕ) (place : ℕ) → BytesAt question place text → BytesAt (replicate 12 0 ++ question) (12 + place) text
behind_header question text place s = record {
  fits = omega (arith, s.fits, length-append (replicate 12 0) question);
  same = λ k lt. ap (λ i. get_or (replicate 12 0 ++ question) i 0) (omega arith) ∙ get_or-append-add (replicate 12 0) question (place + k) 0 ∙ s.same k lt;
}

-- an end of the name of the question is a note
end_note : (question : List ℕ) (place : ℕ) (ls : List (List ℕ)) → All IsLabel ls → BytesAt question place (name_octets ls) → IsNote (replicate 12 0 ++ question) (12 + length question) (wire_form ls, 12 + place)
end_note question place ls are s =
    let bytes = replicate 12 0 ++ question in
    record {
      before = omega (arith, s.fits, length-append (wire_form ls) (0 ∷ []));
      past = 12 + place + name_len ls;
      stand = subst (λ labels. LabelsAt 12 bytes (12 + place) (12 + place) labels (12 + place + name_len ls)) (sym (cut-wire ls)) (labels_stand bytes 12 (12 + place) (12 + place) ls (recursion_from_All IsLabel ls are) (omega arith) (behind_header question (name_octets ls) place s));
    }

-- and so are all of them
ends_notes : (question : List ℕ) (place : ℕ) (ls : List (List ℕ)) → All IsLabel ls → BytesAt question place (name_octets ls) → AreNotes (replicate 12 0 ++ question) (12 + length question) (ends_from (12 + place) ls)
ends_notes question place [] are s = All-nil (IsNote (replicate 12 0 ++ question) (12 + length question))
ends_notes question place (l ∷ ls) are s =
    let bytes = replicate 12 0 ++ question in
    let first = length l ∷ l in
    let parts : BytesAt question place (first ++ name_octets ls) = subst (λ t. BytesAt question place (length l ∷ t)) (append_assoc l (wire_form ls) (0 ∷ [])) s in
    let next : 12 + (place + length first) ≡ 12 + place + (1 + length l) = omega arith in
    let others = ends_notes question (place + length first) ls (All-tail IsLabel l ls are) (BytesAt-right question place first (name_octets ls) parts) in
    All-cons (IsNote bytes (12 + length question)) (wire_form (l ∷ ls), 12 + place) (ends_from (12 + place + (1 + length l)) ls) (end_note question place (l ∷ ls) are s)
    (subst (λ p. AreNotes bytes (12 + length question) (ends_from p ls)) next others)

-- ---- the name that stands in full
pub name_wire : (question wire : List ℕ) (count : ℕ) → StandsInFull question wire count → IsWire wire
name_wire question wire count s = is_wire_of wire s.labels s.is s.are

pub name_count : (question wire : List ℕ) (count : ℕ) → StandsInFull question wire count → count ≡ length (cut wire)
name_count question wire count s = s.counted ∙ ap length (sym (cut_of wire s.labels s.is))

pub name_noted : (question wire : List ℕ) (count : ℕ) (notes : Notes) → StandsInFull question wire count → notes ≡ ends_from 12 (cut wire) → AreNotes (replicate 12 0 ++ question) (12 + length question) notes
name_noted question wire count notes s e =
    let all = ends_notes question 0 s.labels s.are.each s.stands in
    let whole : notes ≡ ends_from (12 + 0) s.labels = e ∙ ap (ends_from 12) (cut_of wire s.labels s.is) ∙ ap (λ p. ends_from p s.labels) (omega arith) in
    subst (λ ns. AreNotes (replicate 12 0 ++ question) (12 + length question) ns) (sym whole) all

pub no_notes : (bytes : List ℕ) (start : ℕ) (notes : Notes) → notes ≡ [] → AreNotes bytes start notes
no_notes bytes start notes e = subst (λ ns. AreNotes bytes start ns) (sym e) (λ i x h. absurd (omega arith))

-- the notes of what stands behind an empty header
pub notes_behind : (bytes question : List ℕ) (notes : Notes) → bytes ≡ replicate 12 0 ++ question → AreNotes (replicate 12 0 ++ question) (12 + length question) notes → AreNotes bytes (length bytes) notes
notes_behind bytes question notes e h =
    let long : 12 + length question ≡ length bytes = omega (arith, ap length e, length-append (replicate 12 0) question) in
    subst (λ n. AreNotes bytes n notes) long (subst (λ bs. AreNotes bs (12 + length question) notes) (sym e) h)
