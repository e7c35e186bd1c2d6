-- Texts that stand in bytes, by the bytes that are got.
use Rattle.std.proofs.Common.{◌≡◌, ℕ, suc, ◌+◌, ◌<◌, ◌≤◌, List, [], ◌∷◌, length, get_or, drop, Some, None, sym, ap, ◌∙◌, arith, add-zero}
use Rattle.std.specs.Prelude.{slice_get}
use Rattle.std.proofs.Common.{inl, inr, zero}
use Rattle.std.proofs.lemmas.Bool.{cases_lt}
use Rattle.std.proofs.lemmas.Option.{slice_get_within, slice_get-get_or, get_or_from_slice_get, slice_get_past}
use Rattle.std.proofs.lemmas.List.{get_or-drop, ext_get_or, length-take, length-drop, get_or-take}
use Rattle.wire_names.specs.serialize.layout.Bytes.{BytesAt}
use Rattle.wire_messages.specs.serialize.reading.NameReading.{label_at}
use Rattle.wire_names.specs.rr.domain.DomainName.{name_len}

pub name_len-pos : (ls : List (List ℕ)) → 0 < name_len ls
name_len-pos [] = omega arith
name_len-pos (l ∷ ls) = omega arith

pub label_len : (bytes : List ℕ) (place n : ℕ) → place + 1 + n ≤ length bytes → length (label_at bytes place n) ≡ n
label_len bytes place n there = omega (arith, length-take n (drop (place + 1) bytes), length-drop (place + 1) bytes)

pub missing_is : (bytes : List ℕ) (place : ℕ) → length bytes ≤ place → slice_get bytes place ≡ None
missing_is bytes place h = slice_get_past bytes place h

pub missing_from : (bytes : List ℕ) (place : ℕ) → slice_get bytes place ≡ None → length bytes ≤ place
missing_from bytes place h = elim (cases_lt place (length bytes)) [
  | inl lt ↦ let e : None ≡ Some (get_or bytes place 0) = sym h ∙ slice_get-get_or bytes place 0 lt in absurd cc
  | inr le ↦ le
]

pub byte_one : {bytes ns : List ℕ} {place n : ℕ} → BytesAt bytes place (n ∷ ns) → slice_get bytes place ≡ Some n
byte_one {bytes} {ns} {place} {n} s = slice_get-get_or bytes place 0 (omega (arith, s.fits)) ∙ ap Some (ap (λ i. get_or bytes i 0) (sym (add-zero place)) ∙ s.same 0 (omega arith))

pub byte_two : {bytes ns : List ℕ} {place m n : ℕ} → BytesAt bytes place (m ∷ n ∷ ns) → slice_get bytes (place + 1) ≡ Some n
byte_two {bytes} {ns} {place} {m} {n} s = slice_get-get_or bytes (place + 1) 0 (omega (arith, s.fits)) ∙ ap Some (s.same 1 (omega arith))

pub label_of : {bytes label : List ℕ} {place : ℕ} → BytesAt bytes place (length label ∷ label) → label_at bytes place (length label) ≡ label
label_of {bytes} {label} {place} s =
    let there : place + 1 + length label ≤ length bytes = omega (arith, s.fits) in
    ext_get_or 0 (label_at bytes place (length label)) label (label_len bytes place (length label) there)
    (λ i lt. get_or-take (length label) (drop (place + 1) bytes) i 0 (omega (arith, label_len bytes place (length label) there)) ∙ get_or-drop (place + 1) bytes i 0 ∙ ap (λ k. get_or bytes k 0) (omega arith) ∙ s.same (suc i) (omega (arith, label_len bytes place (length label) there)))

pub stands_one : (bytes : List ℕ) (place n : ℕ) → slice_get bytes place ≡ Some n → BytesAt bytes place (n ∷ [])
stands_one bytes place n h = record {
  fits = omega (arith, slice_get_within bytes place n h);
  same = λ k lt. let e : k ≡ 0 = omega arith in rw e (ap (λ i. get_or bytes i 0) (add-zero place) ∙ get_or_from_slice_get bytes place n 0 h);
}

two_same : (bytes : List ℕ) (place m n : ℕ) → slice_get bytes place ≡ Some m → slice_get bytes (place + 1) ≡ Some n → (k : ℕ) → k < 2 → get_or bytes (place + k) 0 ≡ get_or (m ∷ n ∷ []) k 0
two_same bytes place m n h i zero lt = ap (λ i. get_or bytes i 0) (add-zero place) ∙ get_or_from_slice_get bytes place m 0 h
two_same bytes place m n h i (suc zero) lt = get_or_from_slice_get bytes (place + 1) n 0 i
two_same bytes place m n h i (suc (suc k)) lt = absurd (omega arith)

pub stands_two : (bytes : List ℕ) (place m n : ℕ) → slice_get bytes place ≡ Some m → slice_get bytes (place + 1) ≡ Some n → BytesAt bytes place (m ∷ n ∷ [])
stands_two bytes place m n h i = record { fits = omega (arith, slice_get_within bytes (place + 1) n i); same = two_same bytes place m n h i }

label_same : (bytes : List ℕ) (place n : ℕ) → slice_get bytes place ≡ Some n → place + 1 + n ≤ length bytes → (k : ℕ) → k < 1 + n → get_or bytes (place + k) 0 ≡ get_or (length (label_at bytes place n) ∷ label_at bytes place n) k 0
label_same bytes place n h there zero lt = ap (λ i. get_or bytes i 0) (add-zero place) ∙ get_or_from_slice_get bytes place n 0 h ∙ sym (label_len bytes place n there)
label_same bytes place n h there (suc k) lt = sym (get_or-take n (drop (place + 1) bytes) k 0 (omega arith) ∙ get_or-drop (place + 1) bytes k 0 ∙ ap (λ i. get_or bytes i 0) (omega arith))

pub stands_label : (bytes : List ℕ) (place : ℕ) (n : ℕ) → slice_get bytes place ≡ Some n → place + 1 + n ≤ length bytes → BytesAt bytes place (length (label_at bytes place n) ∷ label_at bytes place n)
stands_label bytes place n h there = record { fits = omega (arith, label_len bytes place n there); same = λ k lt. label_same bytes place n h there k (omega (arith, label_len bytes place n there)) }
