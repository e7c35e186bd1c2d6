-- Numbers below a bound, as digits are.
use Rattle.std.proofs.Common.{◌≡◌, ◌^◌, ◌<◌, ◌≤◌, ℕ, Bool, true, false, List, [], ◌∷◌, Option, Some, None, length, sym, subst, refl, arith}
use Rattle.std.proofs.lemmas.Bool.{and_from, and_parts, lt-ltb, ltb-true}
use Rattle.std.specs.Prelude.{◌&&◌, if◌then◌else◌, nat_lt}
use Rattle.std.specs.Char.{digit_value, is_digit}
use Rattle.std.specs.Str.Parse.{AllDigits, digits_value}
use Rattle.text_words.specs.Spelling.{IsNoNumber, IsNumber}
use Rattle.zone_text.specs.Numbered.{are_digits, number_below}

pub all_digits : (text : List ℕ) → AllDigits 10 text → are_digits text ≡ true
all_digits [] all = refl
all_digits (byte ∷ text) all = and_from (is_digit byte 10) (are_digits text) (lt-ltb (digit_value byte) 10 all.0) (all_digits text all.1)

pub digits_all : (text : List ℕ) → are_digits text ≡ true → AllDigits 10 text
digits_all [] are = tt
digits_all (byte ∷ text) are =
    let p = and_parts (is_digit byte 10) (are_digits text) are in
    (ltb-true (digit_value byte) 10 p.0, digits_all text p.1)

abbrev pick : Bool → ℕ → Option ℕ
pick test n = if test then Some n else None

picked : (test : Bool) (n : ℕ) → test ≡ true → pick test n ≡ Some n
picked true n e = refl
picked false n e = absurd (cc)

dropped : (test : Bool) (n : ℕ) → (test ≡ true → ⊥) → pick test n ≡ None
dropped true n = λ no. absurd (no refl)
dropped false n = λ no. refl

pub below : (bound : ℕ) (text : List ℕ) (n : ℕ) → IsNumber text n → n < bound → number_below bound text ≡ Some n
below bound text n is less = subst (λ (m : ℕ). number_below bound text ≡ Some m) is.value
    (picked (nat_lt 0 (length text) && (are_digits text && nat_lt (digits_value 10 text) bound)) (digits_value 10 text)
    (and_from (nat_lt 0 (length text)) (are_digits text && nat_lt (digits_value 10 text) bound) (lt-ltb 0 (length text) is.digits.0)
    (and_from (are_digits text) (nat_lt (digits_value 10 text) bound) (all_digits text is.digits.1) (lt-ltb (digits_value 10 text) bound (subst (λ (m : ℕ). m < bound) (sym is.value) less)))))

-- what passes the tests is a number below the bound
passes : (bound : ℕ) (text : List ℕ) → (nat_lt 0 (length text) && (are_digits text && nat_lt (digits_value 10 text) bound)) ≡ true → IsNumber text (digits_value 10 text) × (digits_value 10 text < bound)
passes bound text e =
    let one = and_parts (nat_lt 0 (length text)) (are_digits text && nat_lt (digits_value 10 text) bound) e in
    let two = and_parts (are_digits text) (nat_lt (digits_value 10 text) bound) one.1 in
    (record { digits = (ltb-true 0 (length text) one.0, digits_all text two.0); value = refl }, ltb-true (digits_value 10 text) bound two.1)

pub not_below : (bound : ℕ) (text : List ℕ) (n : ℕ) → IsNumber text n → bound ≤ n → number_below bound text ≡ None
not_below bound text n is over = dropped (nat_lt 0 (length text) && (are_digits text && nat_lt (digits_value 10 text) bound)) (digits_value 10 text)
    (λ e. omega (arith, over, is.value, (passes bound text e).1))

pub no_number : (bound : ℕ) (text : List ℕ) → IsNoNumber text → bound ≤ 2 ^ 32 → number_below bound text ≡ None
no_number bound text none small = dropped (nat_lt 0 (length text) && (are_digits text && nat_lt (digits_value 10 text) bound)) (digits_value 10 text)
    (λ e. none (digits_value 10 text) (passes bound text e).0 (omega (arith, small, (passes bound text e).1)))
