-- A text is one decimal number at most, and when it is none.
use Rattle.std.proofs.Common.{◌≡◌, ◌∙◌, ◌-◌, ◌*◌, ◌^◌, ◌<◌, ◌≤◌, ℕ, List, [], ◌∷◌, length, sym, ap, subst, refl, inl, inr, arith}
use Rattle.std.proofs.lemmas.Bool.{cases_lt}
use Rattle.std.proofs.lemmas.Int.Digits.{digits_value-lt}
use Rattle.std.proofs.lemmas.Nat.{mul-le}
use Rattle.std.specs.Str.Parse.{digits_value}
use Rattle.text_words.specs.Cuts.{before_byte, behind_byte}
use Rattle.text_words.specs.Spelling.{IsNoNumber, IsNumber}
use Rattle.text_data.specs.LocationText.{HasNone, IsDecimal, IsFraction}
use Rattle.text_data.specs.LocationText.IsFraction.{none as no_digits, some as some_digits}

fraction_once : (places : ℕ) (text : List ℕ) (n m : ℕ) → IsFraction places text n → IsFraction places text m → n ≡ m
fraction_once places text n m no_digits no_digits = refl
fraction_once places text n m no_digits (some_digits is few) = absurd (omega (arith, is.digits.0))
fraction_once places text n m (some_digits is few) no_digits = absurd (omega (arith, is.digits.0))
fraction_once places text n m (some_digits is few) (some_digits other less) = ap (λ (k : ℕ). k * 10 ^ (places - length text)) (sym is.value ∙ other.value)

pub decimal_once : (places : ℕ) (text : List ℕ) (n m : ℕ) → IsDecimal places text n → IsDecimal places text m → n ≡ m
decimal_once places text n m one two =
    let wholes : one.whole ≡ two.whole = sym one.wholes.value ∙ two.wholes.value in
    let parts : one.part ≡ two.part = fraction_once places (behind_byte 46 text) one.part two.part one.parts two.parts in
    one.together ∙ rw (wholes, parts) (sym two.together)

pub few_digits : (text : List ℕ) (n : ℕ) → length text ≤ 3 → IsNumber text n → n < 2 ^ 32
few_digits text n few is = omega (arith, is.value, small text few (digits_value-lt 10 text is.digits.1)) where
  small : (text : List ℕ) → length text ≤ 3 → digits_value 10 text < 10 ^ length text → digits_value 10 text < 1000
  small [] few less = omega (arith, less)
  small (a ∷ []) few less = omega (arith, less)
  small (a ∷ b ∷ []) few less = omega (arith, less)
  small (a ∷ b ∷ c ∷ []) few less = omega (arith, less)
  small (a ∷ b ∷ c ∷ d ∷ text) few less = absurd (omega arith)

pub empty_fraction : (places : ℕ) (text : List ℕ) → length text ≡ 0 → IsFraction places text 0
empty_fraction places [] e = no_digits
empty_fraction places (a ∷ text) e = absurd (omega (arith, e))

pub no_fraction : (places : ℕ) (text : List ℕ) → 0 < length text → length text ≤ 3 → IsNoNumber text → HasNone (IsFraction places text)
no_fraction places text more few none n no_digits = absurd (omega (arith, more))
no_fraction places text more few none n (some_digits {n = k} is less) = none k is (few_digits text k few is)

pub as_fraction : (places : ℕ) (text : List ℕ) (n m p : ℕ) → IsNumber text n → length text ≤ places → m ≡ n → p ≡ 10 ^ (places - length text) → IsFraction places text (m * p)
as_fraction places text n m p is few e f = rw (e, f) (some_digits is few)

-- what a digit before the dot weighs
hundred : (places : ℕ) → 2 ≤ places → places ≤ 3 → 100 ≤ 10 ^ places
hundred places low high = elim (cases_lt places 3) [
  | inl h ↦ let e : 2 ≡ places = omega (arith, low, h) in subst (λ (p : ℕ). 100 ≤ 10 ^ p) e (omega arith)
  | inr h ↦ let e : 3 ≡ places = omega (arith, high, h) in subst (λ (p : ℕ). 100 ≤ 10 ^ p) e (omega arith)
]

-- digits before the dot that are no number of 32 bits
pub no_decimal : (places : ℕ) (text front : List ℕ) → 2 ≤ places → places ≤ 3 → front ≡ before_byte 46 text → IsNoNumber front → (n : ℕ) → IsDecimal places text n → n < 429496729600 → ⊥
no_decimal places text front low high e none n is small = elim (cases_lt is.whole 4294967296) [
  | inl h ↦ none is.whole (subst (λ (t : List ℕ). IsNumber t is.whole) (sym e) is.wholes) h
  | inr h ↦
      let great : 4294967296 * 100 ≤ is.whole * 10 ^ places = mul-le 4294967296 100 is.whole (10 ^ places) (omega (arith, h)) (hundred places low high) in
      omega (arith, great, is.together, small)
]
