-- Groups of eight digits, which are five octets.
use Rattle.std.proofs.Common.{◌≡◌, ◌∙◌, ◌+◌, ◌*◌, ◌/◌, ◌%◌, ◌==◌, ℕ, suc, Bool, true, false, inl, inr, List, [], ◌∷◌, length, slice_index_or, Option, Some, None, refl, sym, ap, subst, arith}
use Rattle.std.specs.Prelude.{◌⊎◌}
use Rattle.std.proofs.lemmas.Bool.Decides.{nat_tests}
use Rattle.std.specs.Option.{option_and_then, option_map}
use Rattle.zone_denials.specs.HashLabels.{digit_in, digits_in, group_in, group_of}

-- the found digits are as many as there are octets
abbrev AsMany : ℕ → Option (List ℕ) → Type 0
AsMany count None = Unit {0}
AsMany count (Some digits) = length digits ≡ count

as_many : (text : List ℕ) → AsMany (length text) (digits_in text)
as_many [] = refl
as_many (octet ∷ octets) = by_digit (digit_in octet) (digits_in octets) (as_many octets) where
  by_digit : (digit : Option ℕ) (digits : Option (List ℕ)) → AsMany (length octets) digits → AsMany (suc (length octets)) (option_and_then (λ digit. option_map (λ digits. digit ∷ digits) digits) digit)
  by_digit None digits h = tt
  by_digit (Some digit) None h = tt
  by_digit (Some digit) (Some digits) h = ap suc h

not_eight : (digits : List ℕ) → ¬ (length digits ≡ 8) → group_of digits ≡ None
not_eight [] h = refl
not_eight (a ∷ []) h = refl
not_eight (a ∷ b ∷ []) h = refl
not_eight (a ∷ b ∷ c ∷ []) h = refl
not_eight (a ∷ b ∷ c ∷ d ∷ []) h = refl
not_eight (a ∷ b ∷ c ∷ d ∷ e ∷ []) h = refl
not_eight (a ∷ b ∷ c ∷ d ∷ e ∷ f ∷ []) h = refl
not_eight (a ∷ b ∷ c ∷ d ∷ e ∷ f ∷ g ∷ []) h = refl
not_eight (a ∷ b ∷ c ∷ d ∷ e ∷ f ∷ g ∷ k ∷ []) h = absurd (h refl)
not_eight (a ∷ b ∷ c ∷ d ∷ e ∷ f ∷ g ∷ k ∷ l ∷ more) h = refl

pub no_group : (text : List ℕ) → ¬ (length text ≡ 8) → group_in text ≡ None
no_group text h = by_digits (digits_in text) (as_many text) where
  by_digits : (digits : Option (List ℕ)) → AsMany (length text) digits → option_and_then group_of digits ≡ None
  by_digits None many = refl
  by_digits (Some digits) many = not_eight digits (λ e. h (sym many ∙ e))

pub eight : (text : List ℕ) (a b c d e f g h : ℕ) → length text ≡ 8 → Some a ≡ digit_in (slice_index_or text 0 0) → Some b ≡ digit_in (slice_index_or text 1 0) → Some c ≡ digit_in (slice_index_or text 2 0) → Some d ≡ digit_in (slice_index_or text 3 0)
    → Some e ≡ digit_in (slice_index_or text 4 0) → Some f ≡ digit_in (slice_index_or text 5 0) → Some g ≡ digit_in (slice_index_or text 6 0) → Some h ≡ digit_in (slice_index_or text 7 0)
    → Some ((a * 8 + b / 4) ∷ (b % 4 * 64 + c * 2 + d / 16) ∷ (d % 16 * 16 + e / 2) ∷ (e % 2 * 128 + f * 4 + g / 8) ∷ (g % 8 * 32 + h) ∷ []) ≡ group_in text
eight (s ∷ t ∷ u ∷ v ∷ w ∷ x ∷ y ∷ z ∷ []) a b c d e f g h size p q r i j k l m = rw (sym p) (rw (sym q) (rw (sym r) (rw (sym i) (rw (sym j) (rw (sym k) (rw (sym l) (rw (sym m) refl)))))))
eight [] a b c d e f g h size p q r i j k l m = absurd (omega (arith, size))
eight (s ∷ []) a b c d e f g h size p q r i j k l m = absurd (omega (arith, size))
eight (s ∷ t ∷ []) a b c d e f g h size p q r i j k l m = absurd (omega (arith, size))
eight (s ∷ t ∷ u ∷ []) a b c d e f g h size p q r i j k l m = absurd (omega (arith, size))
eight (s ∷ t ∷ u ∷ v ∷ []) a b c d e f g h size p q r i j k l m = absurd (omega (arith, size))
eight (s ∷ t ∷ u ∷ v ∷ w ∷ []) a b c d e f g h size p q r i j k l m = absurd (omega (arith, size))
eight (s ∷ t ∷ u ∷ v ∷ w ∷ x ∷ []) a b c d e f g h size p q r i j k l m = absurd (omega (arith, size))
eight (s ∷ t ∷ u ∷ v ∷ w ∷ x ∷ y ∷ []) a b c d e f g h size p q r i j k l m = absurd (omega (arith, size))
eight (s ∷ t ∷ u ∷ v ∷ w ∷ x ∷ y ∷ z ∷ o ∷ more) a b c d e f g h size p q r i j k l m = absurd (omega (arith, size))

-- five octets by their places
abbrev pub five : List ℕ → List ℕ
five xs = slice_index_or xs 0 0 ∷ slice_index_or xs 1 0 ∷ slice_index_or xs 2 0 ∷ slice_index_or xs 3 0 ∷ slice_index_or xs 4 0 ∷ []

some_same : {A : Type 0} {x y : A} → Some x ≡ Some y → x ≡ y
some_same e = cc

none_some : {A : Type 0} {x : A} → Some x ≡ None → ⊥
none_some e = cc

eight_or : (n : ℕ) → (n ≡ 8) ⊎ ¬ (n ≡ 8)
eight_or n = by_test (n == 8) refl where
  by_test : (b : Bool) → (n == 8) ≡ b → (n ≡ 8) ⊎ ¬ (n ≡ 8)
  by_test true e = inl (grind (arith, nat_tests))
  by_test false e = inr (λ s. absurd (grind (arith, nat_tests)))

-- the octets of a group are five
pub are_five : (text xs : List ℕ) → Some xs ≡ group_in text → five xs ≡ xs
are_five text xs = by_digits (digits_in text) (as_many text) where
  of_eight : (digits : List ℕ) → length digits ≡ 8 → Some xs ≡ group_of digits → five xs ≡ xs
  of_eight (s ∷ t ∷ u ∷ v ∷ w ∷ x ∷ y ∷ z ∷ []) size e = subst (λ (os : List ℕ). five os ≡ os) (sym (some_same e)) refl
  of_eight [] size e = absurd (omega (arith, size))
  of_eight (s ∷ []) size e = absurd (omega (arith, size))
  of_eight (s ∷ t ∷ []) size e = absurd (omega (arith, size))
  of_eight (s ∷ t ∷ u ∷ []) size e = absurd (omega (arith, size))
  of_eight (s ∷ t ∷ u ∷ v ∷ []) size e = absurd (omega (arith, size))
  of_eight (s ∷ t ∷ u ∷ v ∷ w ∷ []) size e = absurd (omega (arith, size))
  of_eight (s ∷ t ∷ u ∷ v ∷ w ∷ x ∷ []) size e = absurd (omega (arith, size))
  of_eight (s ∷ t ∷ u ∷ v ∷ w ∷ x ∷ y ∷ []) size e = absurd (omega (arith, size))
  of_eight (s ∷ t ∷ u ∷ v ∷ w ∷ x ∷ y ∷ z ∷ o ∷ more) size e = absurd (omega (arith, size))

  is_eight : (digits : List ℕ) → Some xs ≡ group_of digits → (length digits ≡ 8) ⊎ ¬ (length digits ≡ 8) → five xs ≡ xs
  is_eight digits e which = elim which [
    | inl size ↦ of_eight digits size e
    | inr other ↦ absurd (none_some (e ∙ not_eight digits other))
  ]

  by_digits : (digits : Option (List ℕ)) → AsMany (length text) digits → Some xs ≡ option_and_then group_of digits → five xs ≡ xs
  by_digits None many e = absurd (none_some e)
  by_digits (Some digits) many e = is_eight digits e (eight_or (length digits))
