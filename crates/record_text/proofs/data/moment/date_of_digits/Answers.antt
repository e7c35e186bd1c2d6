use Rattle.std.proofs.Common.{◌≡◌, ◌∙◌, ◌-◌, ◌≤◌, ℕ, List, ◌++◌, length, take, drop, sym, ap, arith, subst, length-drop, length-take}
use Rattle.std.proofs.Math.Seq.{take-add}
use Rattle.std.proofs.lemmas.List.{take_rest, take-append-drop, length-take-le}
use Rattle.text_words.specs.Spelling.{IsNoNumber}
use Rattle.record_text.proofs.NoMoment.{few_digits, parts_of}
use Rattle.record_text.proofs.data.moment.date_of_digits.Goals as goal

pieces : (d : List ℕ) → d ≡ take 4 d ++ take 2 (drop 4 d) ++ take 2 (drop 6 d) ++ take 2 (drop 8 d) ++ take 2 (drop 10 d) ++ take (length d - 12) (drop 12 d)
pieces d = sym (
    ap (λ (t : List ℕ). t ++ take 2 (drop 6 d) ++ take 2 (drop 8 d) ++ take 2 (drop 10 d) ++ take (length d - 12) (drop 12 d)) (sym (take-add 4 2 d))
    ∙ ap (λ (t : List ℕ). t ++ take 2 (drop 8 d) ++ take 2 (drop 10 d) ++ take (length d - 12) (drop 12 d)) (sym (take-add 6 2 d))
    ∙ ap (λ (t : List ℕ). t ++ take 2 (drop 10 d) ++ take (length d - 12) (drop 12 d)) (sym (take-add 8 2 d))
    ∙ ap (λ (t : List ℕ). t ++ take (length d - 12) (drop 12 d)) (sym (take-add 10 2 d))
    ∙ ap (λ (t : List ℕ). take 12 d ++ t) (take_rest d 12)
    ∙ take-append-drop 12 d)

two : (d : List ℕ) (n : ℕ) → n ≤ 12 → length d ≡ 14 → length (take 2 (drop n d)) ≡ 2
two d n low e = length-take-le 2 (drop n d) (omega (arith, length-drop n d))

last : (d : List ℕ) → length d ≡ 14 → length (take (length d - 12) (drop 12 d)) ≡ 2
last d e = ap length (take_rest d 12) ∙ omega (arith, length-drop 12 d)

pub returns-clause-spelled : goal.returns-clause-spelled
returns-clause-spelled c =
    let d : List ℕ = c.args.digits.now in
    let e : length d ≡ 14 = c.requires in
    record {
      year = take 4 d;
      month = take 2 (drop 4 d);
      day = take 2 (drop 6 d);
      hour = take 2 (drop 8 d);
      minute = take 2 (drop 10 d);
      second = take (length d - 12) (drop 12 d);
      in_order = pieces d;
      four = length-take-le 4 d (omega (arith, e));
      two = (two d 4 (omega arith) e, two d 6 (omega arith) e, two d 8 (omega arith) e, two d 10 (omega arith) e, last d e);
      years = c.in_ok-number_of_digits.ensures.number.0;
      months = c.in_ok-number_of_digits-2.ensures.number.0;
      days = c.in_ok-number_of_digits-3.ensures.number.0;
      hours = c.in_ok-number_of_digits-4.ensures.number.0;
      minutes = c.in_ok-number_of_digits-5.ensures.number.0;
      seconds = c.in_ok-number_of_digits-6.ensures.number.0;
    }

pub returns-in_err-number_of_digits-clause-none : goal.returns-in_err-number_of_digits-clause-none
returns-in_err-number_of_digits-clause-none c =
    let d : List ℕ = c.args.digits.now in
    rw c.from_residual.ensures (λ date is. few_digits (take 4 d) date.year (omega (arith, length-take 4 d)) (parts_of d date is).years c.in_err-number_of_digits.ensures.none)

pub returns-in_err-number_of_digits-2-clause-none : goal.returns-in_err-number_of_digits-2-clause-none
returns-in_err-number_of_digits-2-clause-none c =
    let d : List ℕ = c.args.digits.now in
    rw c.from_residual-in_err-number_of_digits-2.ensures (λ date is. few_digits (take 2 (drop 4 d)) date.month (omega (arith, length-take 2 (drop 4 d))) (parts_of d date is).months c.in_err-number_of_digits-2.ensures.none)

pub returns-in_err-number_of_digits-3-clause-none : goal.returns-in_err-number_of_digits-3-clause-none
returns-in_err-number_of_digits-3-clause-none c =
    let d : List ℕ = c.args.digits.now in
    rw c.from_residual-in_err-number_of_digits-3.ensures (λ date is. few_digits (take 2 (drop 6 d)) date.day (omega (arith, length-take 2 (drop 6 d))) (parts_of d date is).days c.in_err-number_of_digits-3.ensures.none)

pub returns-in_err-number_of_digits-4-clause-none : goal.returns-in_err-number_of_digits-4-clause-none
returns-in_err-number_of_digits-4-clause-none c =
    let d : List ℕ = c.args.digits.now in
    rw c.from_residual-in_err-number_of_digits-4.ensures (λ date is. few_digits (take 2 (drop 8 d)) date.hour (omega (arith, length-take 2 (drop 8 d))) (parts_of d date is).hours c.in_err-number_of_digits-4.ensures.none)

pub returns-in_err-number_of_digits-5-clause-none : goal.returns-in_err-number_of_digits-5-clause-none
returns-in_err-number_of_digits-5-clause-none c =
    let d : List ℕ = c.args.digits.now in
    rw c.from_residual-in_err-number_of_digits-5.ensures (λ date is. few_digits (take 2 (drop 10 d)) date.minute (omega (arith, length-take 2 (drop 10 d))) (parts_of d date is).minutes c.in_err-number_of_digits-5.ensures.none)

pub returns-in_err-number_of_digits-6-clause-none : goal.returns-in_err-number_of_digits-6-clause-none
returns-in_err-number_of_digits-6-clause-none c =
    let d : List ℕ = c.args.digits.now in
    let len : length d ≡ 14 = c.requires in
    rw c.from_residual-in_err-number_of_digits-6.ensures (λ date is. few_digits (drop 12 d) date.second (omega (arith, length-drop 12 d, len)) (parts_of d date is).seconds (subst IsNoNumber (take_rest d 12) c.in_err-number_of_digits-6.ensures.none))
