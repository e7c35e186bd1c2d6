-- Numbers with units that are read byte by byte.
use Rattle.std.proofs.Common.{◌≡◌, ◌∙◌, ℕ, ◌+◌, ◌-◌, ◌*◌, ◌^◌, ◌<◌, ◌≤◌, List, [], ◌∷◌, ◌++◌, Option, Some, None, sym, ap, subst, refl, append_assoc, append-nil, arith, length-append}
use Rattle.std.specs.Prelude.{MatchOption, unwrap_or}
use Rattle.std.specs.Int.{IsInRange, IsOutOfRange}
use Rattle.std.specs.Str.Parse.{AllDigits, digits_value}
use Rattle.std.proofs.lemmas.Int.Digits.{digits_push, digits_value_push}
use Rattle.std.proofs.lemmas.Str.{digit_value_digit}
use Rattle.text_words.specs.Spelling.{IsNumber, SpellsUnits, unit_seconds}
use Rattle.text_words.specs.Spelling.SpellsUnits.{nothing, more}
use Rattle.text_words.proofs.NoUnits.{digit_first, digits_at_most, first_unit, out_of_digits, unit_at}
use Rattle.text_words.proofs.SpelledOnce.{InUnits, digits_no_units}

-- Numbers with units, and the digits of one behind them, of a whole text of which a rest is left. Whatever the whole
-- spells, the digits and the rest spell what is more than the sum.
pub record UnitsSoFar (whole text rest : List ℕ) (sum : ℕ) (number : Option ℕ) : Type 0 where
  pub front : List ℕ
  pub digits : List ℕ
  pub in_order : text ≡ front ++ digits
  pub counted : SpellsUnits front sum
  pub spelled : MatchOption number (digits ≡ []) (IsNumber digits)
  pub all : (n : ℕ) → InUnits whole n → (left : ℕ) × InUnits (digits ++ rest) left × (n ≡ sum + left)

digits_of : (number : Option ℕ) (digits : List ℕ) → MatchOption number (digits ≡ []) (IsNumber digits) → AllDigits 10 digits × (digits_value 10 digits ≡ unwrap_or number 0)
digits_of None digits h = rw h (tt, refl)
digits_of (Some n) digits h = (h.digits.1, h.value)

pub no_units : (whole : List ℕ) → UnitsSoFar whole [] whole 0 None
no_units whole = record { front = []; digits = []; in_order = refl; counted = nothing; spelled = refl; all = λ n is. (n, is, omega arith) }

pub with_digit : (whole text rest : List ℕ) (sum : ℕ) (number : Option ℕ) (byte n : ℕ) → IsInRange 48 57 byte → n ≡ unwrap_or number 0 * 10 + (byte - 48) → UnitsSoFar whole text (byte ∷ rest) sum number → UnitsSoFar whole (text ++ byte ∷ []) rest sum (Some n)
with_digit whole text rest sum number byte n digit value so =
    let before : AllDigits 10 so.digits × (digits_value 10 so.digits ≡ unwrap_or number 0) = digits_of number so.digits so.spelled in
    let d = digit_value_digit byte digit in
    record {
      front = so.front;
      digits = so.digits ++ byte ∷ [];
      in_order = ap (λ (t : List ℕ). t ++ byte ∷ []) so.in_order ∙ append_assoc so.front so.digits (byte ∷ []);
      counted = so.counted;
      spelled = record {
        digits = (omega (arith, length-append so.digits (byte ∷ [])), digits_push 10 so.digits byte before.0 (omega (arith, d, digit)));
        value = digits_value_push 10 so.digits byte ∙ omega (arith, before.1, d, value);
      };
      all = λ k is. let left = so.all k is in (left.0, subst (λ (t : List ℕ). InUnits t left.0) (sym (append_assoc so.digits (byte ∷ []) rest)) left.1, left.2);
    }

pub with_unit : (whole text rest : List ℕ) (sum n byte seconds : ℕ) → unit_seconds byte ≡ Some seconds → UnitsSoFar whole text (byte ∷ rest) sum (Some n) → UnitsSoFar whole (text ++ byte ∷ []) rest (sum + n * seconds) None
with_unit whole text rest sum n byte seconds unit so = record {
  front = so.front ++ so.digits ++ byte ∷ [];
  digits = [];
  in_order = ap (λ (t : List ℕ). t ++ byte ∷ []) so.in_order ∙ sym (append-nil (so.front ++ so.digits ++ byte ∷ []));
  counted = more byte so.counted so.spelled unit;
  spelled = refl;
  all = λ k is.
      let left = so.all k is in
      let one = first_unit so.digits rest byte n seconds left.0 so.spelled unit left.1 in
      (one.0, one.1, omega (arith, left.2, one.2));
}

pub all_units : (whole text : List ℕ) (sum : ℕ) → UnitsSoFar whole text [] sum None → SpellsUnits text sum
all_units whole text sum so = subst (λ (t : List ℕ). SpellsUnits t sum) (sym (so.in_order ∙ ap (λ (t : List ℕ). so.front ++ t) so.spelled ∙ append-nil so.front)) so.counted

-- Digits that are 2 ^ 32 or more spell no 32 bits with what stands behind them.
pub too_many_digits : (whole text rest : List ℕ) (sum : ℕ) (number : Option ℕ) (byte : ℕ) → IsInRange 48 57 byte → 2 ^ 32 ≤ unwrap_or number 0 * 10 + (byte - 48) → UnitsSoFar whole text (byte ∷ rest) sum number → (n : ℕ) → InUnits whole n → n < 2 ^ 32 → ⊥
too_many_digits whole text rest sum number byte digit great so n is short =
    let more = with_digit whole text rest sum number byte (unwrap_or number 0 * 10 + (byte - 48)) digit refl so in
    let left = more.all n is in
    omega (arith, left.2, short, great, digits_at_most more.digits rest left.0 more.spelled.digits.1 more.spelled.digits.0 left.1, more.spelled.value)

-- A byte that is neither a digit nor a unit, and a unit with no digits before it, spell none.
pub no_unit : (whole text rest : List ℕ) (sum : ℕ) (number : Option ℕ) (byte : ℕ) → IsOutOfRange 48 57 byte → unit_seconds byte ≡ None → UnitsSoFar whole text (byte ∷ rest) sum number → (n : ℕ) → InUnits whole n → ⊥
no_unit whole text rest sum number byte other none so n is =
    let left = so.all n is in
    unit_at so.digits rest byte left.0 (digits_of number so.digits so.spelled).0 (out_of_digits byte other) none left.1

pub no_number : (whole text rest : List ℕ) (sum byte : ℕ) → IsOutOfRange 48 57 byte → UnitsSoFar whole text (byte ∷ rest) sum None → (n : ℕ) → InUnits whole n → ⊥
no_number whole text rest sum byte other so n is =
    let left = so.all n is in
    digit_first rest byte left.0 (out_of_digits byte other) (subst (λ (ds : List ℕ). InUnits (ds ++ byte ∷ rest) left.0) so.spelled left.1)

-- A sum of 2 ^ 64 or more is none of 32 bits.
pub too_great_sum : (whole text rest : List ℕ) (sum n byte seconds : ℕ) → unit_seconds byte ≡ Some seconds → 2 ^ 64 ≤ sum + n * seconds → UnitsSoFar whole text (byte ∷ rest) sum (Some n) → (k : ℕ) → InUnits whole k → k < 2 ^ 32 → ⊥
too_great_sum whole text rest sum n byte seconds unit great so k is short =
    let left = (with_unit whole text rest sum n byte seconds unit so).all k is in
    omega (arith, left.2, short, great)

-- Digits with no unit behind them spell none.
pub no_last_unit : (whole text : List ℕ) (sum n : ℕ) → UnitsSoFar whole text [] sum (Some n) → (k : ℕ) → InUnits whole k → ⊥
no_last_unit whole text sum n so k is =
    let left = so.all k is in
    digits_no_units so.digits left.0 so.spelled.digits.1 so.spelled.digits.0 (subst (λ (t : List ℕ). InUnits t left.0) (append-nil so.digits) left.1)
