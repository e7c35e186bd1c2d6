use Rattle.std.proofs.Common.{◌≡◌, ◌≤◌, ◌<◌, ◌^◌, ◌∙◌, ℕ, true, false, List, take, drop, ap, refl, sym, subst, arith}
use Rattle.std.proofs.lemmas.List.{drop_at, take-append-drop, take_at}
use Rattle.std.specs.List.{IsSplitAt}
use Rattle.std.specs.Prelude.{codes}
use Rattle.record_text.specs.RecordText.{HasNone, IsTypeNumber, SameLetters}
use Rattle.text_words.specs.Spelling.{IsNoNumber, IsNumber}
use Rattle.record_text.proofs.TypesOnce.{four}
use Rattle.record_text.proofs.data.table.numbered.Goals as goal

behind_type : (text front digits : List ℕ) (n number : ℕ) → IsSplitAt text 4 front digits → SameLetters front (codes "TYPE") → IsNumber digits n → n < 2 ^ 16 → number ≡ n → IsTypeNumber text number
behind_type text front digits n number split letters is small same = record {
  front = front;
  digits = digits;
  in_order = rw (split.1, split.2) (sym (take-append-drop 4 text));
  letters = sym letters;
  spelled = subst (IsNumber digits) (sym same) is;
  small = omega (arith, same, small);
}

pub returns-in-Ok-clause-spelled : goal.returns-in-Ok-clause-spelled
returns-in-Ok-clause-spelled c =
    behind_type c.args.text.now c.in_ok-front.front.now c.in_ok-front.digits.now c.in_ok-number.number c.in-Ok.number c.in_ok-front.ensures.cases (c.if-eq_ignore_ascii_case.ensures.test.0 refl) c.in_ok-number.ensures.number.0 c.in-Ok.ensures.0
    c.in-Ok.ensures.1

same_digits : (text front digits : List ℕ) (n : ℕ) → IsSplitAt text 4 front digits → (is : IsTypeNumber text n) → is.digits ≡ digits
same_digits text front digits n split is = sym (drop_at is.front is.digits 4 (four is.front is.letters)) ∙ ap (λ (t : List ℕ). drop 4 t) (sym is.in_order) ∙ sym split.2

same_front : (text front digits : List ℕ) (n : ℕ) → IsSplitAt text 4 front digits → (is : IsTypeNumber text n) → is.front ≡ front
same_front text front digits n split is = sym (take_at is.front is.digits 4 (four is.front is.letters)) ∙ ap (λ (t : List ℕ). take 4 t) (sym is.in_order) ∙ sym split.1

no_digits : (text front digits : List ℕ) → IsSplitAt text 4 front digits → IsNoNumber digits → HasNone (IsTypeNumber text)
no_digits text front digits split none n is = none n (subst (λ (t : List ℕ). IsNumber t n) (same_digits text front digits n split is) is.spelled) (omega (arith, is.small))

too_great : (text front digits : List ℕ) (number : ℕ) → IsSplitAt text 4 front digits → IsNumber digits number → 2 ^ 16 ≤ number → HasNone (IsTypeNumber text)
too_great text front digits number split told great n is =
    let own : IsNumber digits n = subst (λ (t : List ℕ). IsNumber t n) (same_digits text front digits n split is) is.spelled in
    let same : number ≡ n = sym told.value ∙ own.value in
    absurd (omega (arith, same, great, is.small))

other_letters : (text front digits : List ℕ) → IsSplitAt text 4 front digits → (SameLetters front (codes "TYPE") → false ≡ true) → HasNone (IsTypeNumber text)
other_letters text front digits split other n is =
    let letters : SameLetters front (codes "TYPE") = sym (subst (λ (t : List ℕ). SameLetters (codes "TYPE") t) (same_front text front digits n split is) is.letters) in
    let wrong : false ≡ true = other letters in
    cc

pub returns-in_err-number-clause-none : goal.returns-in_err-number-clause-none
returns-in_err-number-clause-none c =
    rw c.from_residual-in_err-number.ensures (no_digits c.args.text.now c.in_ok-front.front.now c.in_ok-front.digits.now c.in_ok-front.ensures.cases c.in_err-number.ensures.none)

pub returns-in-Err-clause-none : goal.returns-in-Err-clause-none
returns-in-Err-clause-none c = too_great c.args.text.now c.in_ok-front.front.now c.in_ok-front.digits.now c.in_ok-number.number c.in_ok-front.ensures.cases c.in_ok-number.ensures.number.0 (omega (arith, c.in-Err.ensures))

pub returns-else-eq_ignore_ascii_case-clause-none : goal.returns-else-eq_ignore_ascii_case-clause-none
returns-else-eq_ignore_ascii_case-clause-none c = other_letters c.args.text.now c.in_ok-front.front.now c.in_ok-front.digits.now c.in_ok-front.ensures.cases c.if-eq_ignore_ascii_case.ensures.test.1
