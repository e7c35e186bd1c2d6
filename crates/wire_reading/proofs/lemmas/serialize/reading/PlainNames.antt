-- Names that stand in full, without a pointer.
use Rattle.std.proofs.Common.{◌≡◌, ℕ, ◌+◌, ◌-◌, ◌<◌, ◌≤◌, List, [], ◌∷◌, ◌++◌, length, take, drop, Some, None, Ok, sym, ap, ◌∙◌, arith}
use Rattle.std.specs.Prelude.{slice_get, slice_range}
use Rattle.std.proofs.Math.Seq.{take-add}
use Rattle.std.proofs.lemmas.List.{drop-drop, length-take, length-drop}
use Rattle.wire_names.specs.serialize.layout.Bytes.{BytesAt}
use Rattle.wire_messages.specs.serialize.reading.NameReading.{label_at, labels_from}
use Rattle.wire_names.specs.rr.domain.DomainName.{IsWire, cut, wire_form}
use Rattle.wire_names.proofs.lemmas.rr.domain.WireForm.{cut_of, is_wire_of, no_labels, are-push, wire-push}
use Rattle.wire_messages.proofs.lemmas.serialize.layout.ByteTexts.{stands_take}
use Rattle.wire_messages.proofs.lemmas.serialize.layout.Stands.{label_len, stands_label}
use Rattle.wire_reading.proofs.lemmas.serialize.reading.LabelLoop.{with_front, none_before, label_here, ends_here}

-- From from up to place stand whole labels of the name at from, and at place reading goes on.
pub record IsPlain (bytes : List ℕ) (from place : ℕ) : Type 0 where
  pub order : from ≤ place
  pub wire : IsWire (slice_range bytes from place)
  pub so_far : with_front (cut (slice_range bytes from place)) None (labels_from bytes from place (1 + (place - from))) ≡ labels_from bytes from from 1

nothing : (bytes : List ℕ) (from : ℕ) → slice_range bytes from from ≡ []
nothing bytes from = let e : from - from ≡ 0 = omega arith in ap (λ (k : ℕ). take k (drop from bytes)) e

pub plain_begins : (bytes : List ℕ) (from : ℕ) → IsPlain bytes from from
plain_begins bytes from =
    let e : 1 + (from - from) ≡ 1 = omega arith in
    record {
      order = omega arith;
      wire = is_wire_of (slice_range bytes from from) [] (nothing bytes from) no_labels;
      so_far = rw (cut_of (slice_range bytes from from) [] (nothing bytes from), e) (none_before from (labels_from bytes from from 1));
    }

-- a text that stands behind a part makes it longer
grown : (bytes text : List ℕ) (from place : ℕ) → from ≤ place → BytesAt bytes place text → slice_range bytes from (place + length text) ≡ slice_range bytes from place ++ text
grown bytes text from place le s =
    let size : place + length text - from ≡ (place - from) + length text = omega arith in
    let there : from + (place - from) ≡ place = omega arith in
    ap (λ (k : ℕ). take k (drop from bytes)) size
    ∙ take-add (place - from) (length text) (drop from bytes)
    ∙ ap (λ (xs : List ℕ). slice_range bytes from place ++ take (length text) xs) (drop-drop (place - from) from bytes ∙ ap (λ (k : ℕ). drop k bytes) there)
    ∙ ap (λ (xs : List ℕ). slice_range bytes from place ++ xs) (stands_take bytes place text s)

pub plain_label : (bytes : List ℕ) (from place n : ℕ) → IsPlain bytes from place → slice_get bytes place ≡ Some n → 0 < n → n < 64 → place + 1 + n ≤ length bytes → place + 1 + n ≤ from + 254
    → IsPlain bytes from (place + 1 + n)
plain_label bytes from place n plain h low high there fits =
    let front : List (List ℕ) = cut (slice_range bytes from place) in
    let label : List ℕ = label_at bytes place n in
    let len : length label ≡ n = label_len bytes place n there in
    let behind : place + length (length label ∷ label) ≡ place + 1 + n = omega (arith, len) in
    let size : length (slice_range bytes from place) ≡ place - from = omega (arith, plain.order, length-take (place - from) (drop from bytes), length-drop from bytes) in
    let whole : slice_range bytes from (place + 1 + n) ≡ wire_form (front ++ label ∷ []) =
    ap (slice_range bytes from) (sym behind)
    ∙ grown bytes (length label ∷ label) from place plain.order (stands_label bytes place n h there)
    ∙ ap (λ (xs : List ℕ). xs ++ length label ∷ label) (sym plain.wire.whole)
    ∙ sym (wire-push front label) in
    let are = are-push front label plain.wire.are (omega (arith, len), omega (arith, len)) (omega (arith, len, size, ap length plain.wire.whole, plain.order)) in
    let next = label_here bytes front None from place (1 + (place - from)) n (labels_from bytes from from 1) plain.so_far h low high there (omega (arith, plain.order)) in
    let counted : 1 + (place + 1 + n - from) ≡ 1 + (place - from) + 1 + n = omega (arith, plain.order) in
    record {
      order = omega (arith, plain.order);
      wire = is_wire_of (slice_range bytes from (place + 1 + n)) (front ++ label ∷ []) whole are;
      so_far = rw (cut_of (slice_range bytes from (place + 1 + n)) (front ++ label ∷ []) whole, counted) next;
    }

pub plain_ends : (bytes : List ℕ) (from place : ℕ) → IsPlain bytes from place → slice_get bytes place ≡ Some 0 → place ≤ from + 254
    → labels_from bytes from from 1 ≡ Ok (cut (slice_range bytes from place), place + 1)
plain_ends bytes from place plain h fits =
    ends_here bytes (cut (slice_range bytes from place)) None from place (1 + (place - from)) (labels_from bytes from from 1) plain.so_far (omega (arith, plain.order)) h
