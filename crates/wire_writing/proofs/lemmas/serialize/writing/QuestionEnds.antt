-- The ends of a name as notes, and the search for one of them by its bytes.
use Rattle.std.proofs.Common.{◌≡◌, ◌≢◌, ℕ, zero, suc, ◌+◌, ◌-◌, ◌^◌, ◌<◌, ◌≤◌, List, [], ◌∷◌, length, take, drop, get_or, false, Some, None, refl, sym, ap, ◌∙◌, arith, length-append, length-drop, get_or-drop, drop-drop}
use Rattle.std.proofs.Math.Seq.{drop-append-add}
use Rattle.std.proofs.lemmas.List.{drop_at}
use Rattle.std.proofs.lemmas.List.Elements.{All-nil, All-cons, All-weaker, All-take}
use Rattle.std.proofs.lemmas.Bool.{false_from_ne_true, cond-true, cond-false}
use Rattle.std.proofs.lemmas.Slice.Eq.{bytes_eq-Decides}
use Rattle.std.specs.List.{All}
use Rattle.std.specs.Str.{bytes_eq}
use Rattle.wire_names.specs.rr.domain.DomainName.{wire_form, cut, IsWire}
use Rattle.wire_writing.specs.representation.Noted.{Notes, IsPlace, first_place, IsNotedAt}
use Rattle.wire_writing.specs.representation.QuestionNames.{ends_from}
use Rattle.wire_writing.proofs.lemmas.serialize.writing.Lookups.{fresh_behind}

pub ends-length : (p : ℕ) (ls : List (List ℕ)) → length (ends_from p ls) ≡ length ls
ends-length p [] = refl
ends-length p (l ∷ ls) = ap suc (ends-length (p + (1 + length l)) ls)

-- none is longer than the name
ends-short : (p : ℕ) (ls : List (List ℕ)) → All (λ note. length note.0 ≤ length (wire_form ls)) (ends_from p ls)
ends-short p [] = All-nil (λ note. length note.0 ≤ 0)
ends-short p (l ∷ ls) =
    let w = wire_form (l ∷ ls) in
    let next = p + (1 + length l) in
    let others = All-weaker (λ note. length note.0 ≤ length (wire_form ls)) (λ note. length note.0 ≤ length w) (λ note short. omega (arith, short, length-append l (wire_form ls))) (ends_from next ls) (ends-short next ls) in
    All-cons (λ note. length note.0 ≤ length w) (w, p) (ends_from next ls) (omega arith) others

-- pointers reach all of them
pub ends-in_range : (p : ℕ) (ls : List (List ℕ)) → 12 ≤ p → p + length (wire_form ls) < 2 ^ 14 → All (λ note. IsPlace note.1) (ends_from p ls)
ends-in_range p [] low high = All-nil (λ note. IsPlace note.1)
ends-in_range p (l ∷ ls) low high =
    let next = p + (1 + length l) in
    let others = ends-in_range next ls (omega (arith, low)) (omega (arith, high, length-append l (wire_form ls))) in
    All-cons (λ note. IsPlace note.1) (wire_form (l ∷ ls), p) (ends_from next ls) (low, omega (arith, high)) others

-- ---- bytes that the name does not end in
not_whole : (s w : List ℕ) → (length s ≤ length w → drop (length w - length s) w ≢ s) → bytes_eq s w ≡ false
not_whole s w h = false_from_ne_true (bytes_eq s w) (λ t.
    let same : s ≡ w = (bytes_eq-Decides s w).0 t in
    let none : length w - length s ≡ 0 = omega (arith, ap length same) in
    h (omega (arith, ap length same)) (ap (λ n. drop n w) none ∙ sym same))

pub no_end : (s : List ℕ) (ls : List (List ℕ)) (p n : ℕ) → (length s ≤ length (wire_form ls) → drop (length (wire_form ls) - length s) (wire_form ls) ≢ s) → first_place s (take n (ends_from p ls)) ≡ None
no_end s [] p zero h = refl
no_end s [] p (suc n) h = refl
no_end s (l ∷ ls) p zero h = refl
no_end s (l ∷ ls) p (suc n) h =
    let w = wire_form (l ∷ ls) in
    let rest = wire_form ls in
    let next = p + (1 + length l) in
    let behind : length s ≤ length rest → drop (length w - length s) w ≡ drop (length rest - length s) rest = λ le.
    let more : length w - length s ≡ length (length l ∷ l) + (length rest - length s) = omega (arith, le, length-append l rest) in
    ap (λ k. drop k w) more ∙ drop-append-add (length l ∷ l) rest (length rest - length s) in
    cond-false (bytes_eq s w) (Some p) (first_place s (take n (ends_from next ls))) (not_whole s w h)
    ∙ no_end s ls next n (λ le e. h (omega (arith, le, length-append l rest)) (behind le ∙ e))

-- ---- the labels that are gone through
-- So many labels of a name stand before the place, and behind them begins what of its ends is left.
pub record Passed (wire : List ℕ) (count start place passed : ℕ) : Type 0 where
  pub labels : List (List ℕ)
  pub rest : drop place wire ≡ wire_form labels
  pub counted : length (cut wire) ≡ passed + length labels
  pub left : first_place (drop start wire) (take count (ends_from 12 (cut wire))) ≡ first_place (drop start wire) (take (count - passed) (ends_from (12 + place) labels))
  pub within : place ≤ length wire

pub none_passed : (wire : List ℕ) (count start : ℕ) → IsWire wire → Passed wire count start 0 0
none_passed wire count start w = record {
  labels = cut wire;
  rest = sym w.whole;
  counted = omega arith;
  left = let all : count ≡ count - 0 = omega arith in ap (λ n. first_place (drop start wire) (take n (ends_from 12 (cut wire)))) all;
  within = omega arith;
}

skips_first : (s w : List ℕ) (p n : ℕ) (others : Notes) → length s < length w → first_place s (take n ((w, p) ∷ others)) ≡ first_place s (take (n - 1) others)
skips_first s w p zero others lt = refl
skips_first s w p (suc n) others lt =
    let differs : bytes_eq s w ≡ false = false_from_ne_true (bytes_eq s w) (λ t. omega (arith, lt, ap length ((bytes_eq-Decides s w).0 t))) in
    let less : n ≡ suc n - 1 = omega arith in
    cond-false (bytes_eq s w) (Some p) (first_place s (take n others)) differs ∙ ap (λ k. first_place s (take k others)) less

passes : (wire : List ℕ) (count start place passed : ℕ) (ls : List (List ℕ)) → drop place wire ≡ wire_form ls → length (cut wire) ≡ passed + length ls
    → first_place (drop start wire) (take count (ends_from 12 (cut wire))) ≡ first_place (drop start wire) (take (count - passed) (ends_from (12 + place) ls)) → place < start → start ≤ length wire
    → Passed wire count start (place + (1 + get_or wire place 0)) (passed + 1)
passes wire count start place passed [] rest counted left lt le = absurd (omega (arith, ap length rest, length-drop place wire, lt, le))
passes wire count start place passed (l ∷ ls) rest counted left lt le =
    let s = drop start wire in
    let w = wire_form (l ∷ ls) in
    let here : get_or wire place 0 ≡ length l = ap (λ k. get_or wire k 0) (omega arith) ∙ sym (get_or-drop place wire 0 0) ∙ ap (λ xs. get_or xs 0 0) rest in
    let step : 1 + get_or wire place 0 ≡ length (length l ∷ l) = omega (arith, here) in
    let size : length w ≡ length wire - place = omega (arith, ap length rest, length-drop place wire) in
    let shorter : length s < length w = omega (arith, size, length-drop start wire, lt, le) in
    let next : 12 + place + (1 + length l) ≡ 12 + (place + (1 + get_or wire place 0)) = omega (arith, here) in
    let less : count - passed - 1 ≡ count - (passed + 1) = omega arith in
    record {
      labels = ls;
      rest = sym (drop-drop (1 + get_or wire place 0) place wire) ∙ ap (λ xs. drop (1 + get_or wire place 0) xs) rest ∙ drop_at (length l ∷ l) (wire_form ls) (1 + get_or wire place 0) (sym step);
      counted = omega (arith, counted);
      left = left ∙ skips_first s w (12 + place) (count - passed) (ends_from (12 + place + (1 + length l)) ls) shorter
          ∙ ap (λ n. first_place s (take n (ends_from (12 + place + (1 + length l)) ls))) less
          ∙ ap (λ p. first_place s (take (count - (passed + 1)) (ends_from p ls))) next;
      within = omega (arith, here, size, length-append l (wire_form ls), lt, le);
    }

pub one_passed : (wire : List ℕ) (count start place passed : ℕ) → Passed wire count start place passed → place < start → start ≤ length wire → Passed wire count start (place + (1 + get_or wire place 0)) (passed + 1)
one_passed wire count start place passed at lt le = passes wire count start place passed at.labels at.rest at.counted at.left lt le

-- Behind the place where the end begins, or behind all that are notes, there is none.
pub none_at : (wire : List ℕ) (count start place passed : ℕ) → Passed wire count start place passed → start ≤ length wire → count ≤ passed → None ≡ first_place (drop start wire) (take count (ends_from 12 (cut wire)))
none_at wire count start place passed at le few =
    let none : count - passed ≡ 0 = omega (arith, few) in
    sym (at.left ∙ ap (λ n. first_place (drop start wire) (take n (ends_from (12 + place) at.labels))) none)

pub none_behind : (wire : List ℕ) (count start place passed : ℕ) → Passed wire count start place passed → start ≤ length wire → start < place → None ≡ first_place (drop start wire) (take count (ends_from 12 (cut wire)))
none_behind wire count start place passed at le lt =
    let s = drop start wire in
    let w = wire_form at.labels in
    let shorter : length w < length s = omega (arith, ap length at.rest, length-drop place wire, length-drop start wire, lt, le, at.within) in
    let all = ends_from (12 + place) at.labels in
    let short = All-weaker (λ note. length note.0 ≤ length w) (λ note. length note.0 < length s) (λ note h. omega (arith, h, shorter)) all (ends-short (12 + place) at.labels) in
    sym (at.left ∙ fresh_behind s [] (take (count - passed) all) refl (All-take (λ note. length note.0 < length s) (count - passed) all short))

found_first : (s w : List ℕ) (p n : ℕ) (others : Notes) → s ≡ w → 0 < n → first_place s (take n ((w, p) ∷ others)) ≡ Some p
found_first s w p zero others e lt = absurd (omega (arith, lt))
found_first s w p (suc n) others e lt = cond-true (bytes_eq s w) (Some p) (first_place s (take n others)) ((bytes_eq-Decides s w).1 e)

found_by : (s : List ℕ) (ls : List (List ℕ)) (p n : ℕ) → s ≡ wire_form ls → 0 < n → 0 < length ls → first_place s (take n (ends_from p ls)) ≡ Some p
found_by s [] p n e lt some = absurd (omega (arith, some))
found_by s (l ∷ ls) p n e lt some = found_first s (wire_form (l ∷ ls)) p n (ends_from (p + (1 + length l)) ls) e lt

noted_whole : (wire : List ℕ) (ls : List (List ℕ)) (p : ℕ) → wire_form ls ≡ wire → 0 < length ls → IsNotedAt (ends_from p ls) wire p
noted_whole wire [] p e some = absurd (omega (arith, some))
noted_whole wire (l ∷ ls) p e some = (
  λ none. omega (arith, ap length e, ap length none),
  cond-true (bytes_eq wire (wire_form (l ∷ ls))) (Some p) (first_place wire (ends_from (p + (1 + length l)) ls)) ((bytes_eq-Decides wire (wire_form (l ∷ ls))).1 (sym e)),
)

-- The whole name is the first one.
pub whole_noted : (wire : List ℕ) → IsWire wire → 0 < length (cut wire) → IsNotedAt (ends_from 12 (cut wire)) wire 12
whole_noted wire w some = noted_whole wire (cut wire) 12 w.whole some

pub found_here : (wire : List ℕ) (count start place passed : ℕ) → Passed wire count start place passed → count ≤ length (cut wire) → start ≡ place → passed < count → Some (12 + start) ≡ first_place (drop start wire) (take count (ends_from 12 (cut wire)))
found_here wire count start place passed at few e lt =
    let here : drop start wire ≡ wire_form at.labels = ap (λ k. drop k wire) e ∙ at.rest in
    ap (λ k. Some (12 + k)) e ∙ sym (at.left ∙ found_by (drop start wire) at.labels (12 + place) (count - passed) here (omega (arith, lt)) (omega (arith, at.counted, few, lt)))
