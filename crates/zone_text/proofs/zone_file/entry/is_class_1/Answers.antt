use Rattle.std.proofs.Common.{◌≡◌, ◌∙◌, ◌++◌, ◌<◌, ℕ, true, false, List, length, take, drop, sym, ap, subst, refl, arith, length-append}
use Rattle.std.proofs.lemmas.Bool.{eq-eqb, eqb-true}
use Rattle.std.proofs.lemmas.List.{drop_at, length-map, take-append-drop, take_at}
use Rattle.std.specs.Char.{to_ascii_lowercase}
use Rattle.std.specs.List.{IsSplitAt}
use Rattle.std.specs.Prelude.{codes}
use Rattle.record_text.specs.RecordText.{SameLetters}
use Rattle.text_words.specs.Spelling.{IsNoNumber, IsNumber}
use Rattle.zone_text.specs.ZoneFiles.{IsClass1}
use Rattle.zone_text.proofs.zone_file.entry.is_class_1.Goals as goal

-- CLASS has five letters
five : (front : List ℕ) → SameLetters (codes "CLASS") front → length front ≡ 5
five front letters = sym (length-map front to_ascii_lowercase) ∙ sym (ap length letters)

class_1 : (text front digits : List ℕ) (n : ℕ) → IsSplitAt text 5 front digits → SameLetters front (codes "CLASS") → IsNumber digits n → n ≡ 1 → IsClass1 text
class_1 text front digits n split letters is one =
    let whole : front ++ digits ≡ text = rw (split.1, split.2) (take-append-drop 5 text) in
    record { front = front; digits = digits; in_order = sym whole; letters = sym letters; spelled = subst (IsNumber digits) one is }

too_short : (text : List ℕ) → length text < 5 → IsClass1 text → ⊥
too_short text short is = omega (arith, short, ap length is.in_order, length-append is.front is.digits, five is.front is.letters)

front_is : (text front digits : List ℕ) → IsSplitAt text 5 front digits → (is : IsClass1 text) → (is.front ≡ front) × (is.digits ≡ digits)
front_is text front digits split is = (
  sym (take_at is.front is.digits 5 (five is.front is.letters)) ∙ ap (λ (t : List ℕ). take 5 t) (sym is.in_order) ∙ sym split.1,
  sym (drop_at is.front is.digits 5 (five is.front is.letters)) ∙ ap (λ (t : List ℕ). drop 5 t) (sym is.in_order) ∙ sym split.2,
)

other_letters : (text front digits : List ℕ) → IsSplitAt text 5 front digits → (SameLetters front (codes "CLASS") → ⊥) → IsClass1 text → ⊥
other_letters text front digits split other is = other (subst (λ (f : List ℕ). SameLetters f (codes "CLASS")) (front_is text front digits split is).0 (sym is.letters))

no_number : (text front digits : List ℕ) → IsSplitAt text 5 front digits → IsNoNumber digits → IsClass1 text → ⊥
no_number text front digits split none is = none 1 (subst (λ (ds : List ℕ). IsNumber ds 1) (front_is text front digits split is).1 is.spelled) (omega arith)

one_number : (text front digits : List ℕ) (n : ℕ) → IsSplitAt text 5 front digits → IsNumber digits n → IsClass1 text → n ≡ 1
one_number text front digits n split number is =
    let same : IsNumber digits 1 = subst (λ (ds : List ℕ). IsNumber ds 1) (front_is text front digits split is).1 is.spelled in
    sym number.value ∙ same.value

not_so : false ≡ true → ⊥
not_so e = cc

pub returns-then-not-eq_ignore_ascii_case : goal.returns-then-not-eq_ignore_ascii_case
returns-then-not-eq_ignore_ascii_case c = (
  λ so. absurd (not_so so),
  λ is. absurd (other_letters c.args.text.now c.in-Some.front.now c.in-Some.digits.now c.in-Some.ensures.cases (λ same. not_so (c.if-not-eq_ignore_ascii_case.ensures.test.1 same)) is),
)

pub returns-in-Some-number_of_digits : goal.returns-in-Some-number_of_digits
returns-in-Some-number_of_digits c = (
  λ so. class_1 c.args.text.now c.in-Some.front.now c.in-Some.digits.now c.in-Some-number_of_digits.number c.in-Some.ensures.cases (c.if-not-eq_ignore_ascii_case.ensures.test.0 refl) c.in-Some-number_of_digits.ensures.number.0 (eqb-true c.in-Some-number_of_digits.number 1 so),
  λ is. eq-eqb c.in-Some-number_of_digits.number 1 (one_number c.args.text.now c.in-Some.front.now c.in-Some.digits.now c.in-Some-number_of_digits.number c.in-Some.ensures.cases c.in-Some-number_of_digits.ensures.number.0 is),
)

pub returns-in-None : goal.returns-in-None
returns-in-None c = (λ so. absurd (not_so so), λ is. absurd (no_number c.args.text.now c.in-Some.front.now c.in-Some.digits.now c.in-Some.ensures.cases c.in-None.ensures.none is))
