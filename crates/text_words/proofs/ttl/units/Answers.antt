use Rattle.std.proofs.Common.{◌≡◌, ◌∙◌, ◌+◌, ◌-◌, ◌*◌, ◌^◌, ◌<◌, ◌≤◌, ℕ, List, [], ◌∷◌, Option, Some, None, Ok, Err, arith, refl, length, take, drop, get_or, sym, ap, subst}
use Rattle.std.proofs.lemmas.List.{drop_all, drop_more, take_more}
use Rattle.std.specs.Option.{IfNone, IfSome, ok_or}
use Rattle.std.proofs.lemmas.Result.{err_from_is_err_and}
use Rattle.std.specs.Prelude.{unwrap_or}
use Rattle.text_words.specs.declared.error.TextError.{TextError}
use Rattle.text_words.specs.Spelling.{unit_seconds}
use Rattle.text_words.proofs.SpelledOnce.{in_units}
use Rattle.text_words.proofs.UnitSteps.{UnitsSoFar, no_last_unit, no_number, no_unit, no_units, too_great_sum, too_many_digits, with_digit, with_unit}
use Rattle.text_words.proofs.ttl.units.Goals.{then-is_ascii_digit+in_ok-ok_or, else-is_ascii_digit+in_ok-seconds+in_ok-count+in_ok-sum}
use Rattle.text_words.proofs.ttl.units.Goals as goal

from_ok : (o : Option ℕ) (e : TextError) (n : ℕ) → Ok n ≡ ok_or o e → o ≡ Some n
from_ok None e n same = absurd (cc)
from_ok (Some m) e n same = cc

at : (text : List ℕ) (i sum : ℕ) (number : Option ℕ) → i < length text → UnitsSoFar text (take i text) (drop i text) sum number → UnitsSoFar text (take i text) (get_or text i 0 ∷ drop (i + 1) text) sum number
at text i sum number within so = subst (λ (r : List ℕ). UnitsSoFar text (take i text) r sum number) (drop_more text i 0 within) so

at_end : (text : List ℕ) (i sum : ℕ) (number : Option ℕ) (last : ℕ) → length text ≤ i → number ≡ Some last → UnitsSoFar text (take i text) (drop i text) sum number → UnitsSoFar text (take i text) [] sum (Some last)
at_end text i sum number last over is so = subst (λ (r : List ℕ). UnitsSoFar text (take i text) r sum (Some last)) (drop_all i text over) (subst (UnitsSoFar text (take i text) (drop i text) sum) is so)

pub loop-byte-init : goal.loop-byte-init
loop-byte-init c = no_units c.args.word.now.bytes.now

pub loop-byte-preserved : goal.loop-byte-preserved
loop-byte-preserved c =
    let text : List ℕ = c.args.word.now.bytes.now in
    let i : ℕ = c.loop-byte.byte-index in
    let byte : ℕ = get_or text i 0 in
    let rest : List ℕ = drop (i + 1) text in
    let so : UnitsSoFar text (take i text) (byte ∷ rest) c.loop-byte.sum c.loop-byte.number = at text i c.loop-byte.sum c.loop-byte.number c.loop-byte-test.true c.loop-byte.invariant in
    elim c.if-is_ascii_digit.branch [
      | then-is_ascii_digit+in_ok-ok_or w ↦
          let e : w.with_digit.result ≡ Some w.in_ok-ok_or.field-0 = from_ok w.with_digit.result c.fault-too_great.result w.in_ok-ok_or.field-0 w.in_ok-ok_or.ensures.value in
          let value : w.in_ok-ok_or.field-0 ≡ unwrap_or c.loop-byte.number 0 * 10 + (byte - 48) = subst (λ (o : Option ℕ). IfSome o (λ n. n ≡ unwrap_or c.loop-byte.number 0 * 10 + (byte - 48))) e w.with_digit.ensures.number in
          rw (w.sum-is, w.number-is, take_more text i 0 c.loop-byte-test.true) (with_digit text (take i text) rest c.loop-byte.sum c.loop-byte.number byte w.in_ok-ok_or.field-0 w.if-is_ascii_digit.ensures.cases value so)
      | else-is_ascii_digit+in_ok-seconds+in_ok-count+in_ok-sum w ↦
          let unit : unit_seconds byte ≡ Some w.in_ok-seconds.seconds = sym w.unit_seconds.ensures ∙ from_ok w.unit_seconds.result c.fault-not_a_ttl.result w.in_ok-seconds.seconds w.in_ok-seconds.ensures.value in
          let count : c.loop-byte.number ≡ Some w.in_ok-count.count = from_ok c.loop-byte.number c.fault-not_a_ttl.result w.in_ok-count.count w.in_ok-count.ensures.value in
          let added : w.checked_add.result ≡ Some w.in_ok-sum.sum = from_ok w.checked_add.result c.fault-too_great.result w.in_ok-sum.sum w.in_ok-sum.ensures.value in
          let total : w.in_ok-sum.sum ≡ c.loop-byte.sum + w.from.result * w.in_ok-seconds.seconds = (rw added at w.checked_add.ensures).1 in
          let counted : w.in_ok-sum.sum ≡ c.loop-byte.sum + w.in_ok-count.count * w.in_ok-seconds.seconds = total ∙ ap (λ (n : ℕ). c.loop-byte.sum + n * w.in_ok-seconds.seconds) w.from.ensures in
          rw (w.sum-is, w.number-is, counted, take_more text i 0 c.loop-byte-test.true) (with_unit text (take i text) rest c.loop-byte.sum w.in_ok-count.count byte w.in_ok-seconds.seconds unit (subst (UnitsSoFar text (take i text) (byte ∷ rest) c.loop-byte.sum) count so))
    ]

not_below : {n : ℕ} → (n < 2 ^ 64 → ⊥) → 2 ^ 64 ≤ n
not_below {n} h = omega (arith, h)

from_err : (o : Option ℕ) (e f : TextError) → Err f ≡ ok_or o e → o ≡ None
from_err None e f same = refl
from_err (Some m) e f same = absurd (cc)

pub returns-in_err-ok_or-clause-refused : goal.returns-in_err-ok_or-clause-refused
returns-in_err-ok_or-clause-refused c =
    let text : List ℕ = c.args.word.now.bytes.now in
    let i : ℕ = c.loop-byte.byte-index in
    let byte : ℕ = get_or text i 0 in
    let p = err_from_is_err_and c.from_residual.result c.from_residual.ensures.1 in
    let none : c.with_digit.result ≡ None = from_err c.with_digit.result c.fault-too_great.result c.in_err-ok_or.field-0.0 c.in_err-ok_or.ensures.value in
    let great : 2 ^ 32 ≤ unwrap_or c.loop-byte.number 0 * 10 + (byte - 48) = subst (λ (o : Option ℕ). IfNone o (2 ^ 32 ≤ unwrap_or c.loop-byte.number 0 * 10 + (byte - 48))) none c.with_digit.ensures.none in
    rw p.1 (λ n is short. too_many_digits text (take i text) (drop (i + 1) text) c.loop-byte.sum c.loop-byte.number byte c.if-is_ascii_digit.ensures.cases great
    (at text i c.loop-byte.sum c.loop-byte.number c.loop-byte-test.true c.loop-byte.invariant) n (in_units is) short)

pub returns-in_err-seconds-clause-refused : goal.returns-in_err-seconds-clause-refused
returns-in_err-seconds-clause-refused c =
    let text : List ℕ = c.args.word.now.bytes.now in
    let i : ℕ = c.loop-byte.byte-index in
    let byte : ℕ = get_or text i 0 in
    let p = err_from_is_err_and c.from_residual-in_err-seconds.result c.from_residual-in_err-seconds.ensures.1 in
    let none : unit_seconds byte ≡ None = sym c.unit_seconds.ensures ∙ from_err c.unit_seconds.result c.fault-not_a_ttl.result c.in_err-seconds.field-0.0 c.in_err-seconds.ensures.value in
    rw p.1 (λ n is short. no_unit text (take i text) (drop (i + 1) text) c.loop-byte.sum c.loop-byte.number byte c.if-is_ascii_digit.ensures.cases none
    (at text i c.loop-byte.sum c.loop-byte.number c.loop-byte-test.true c.loop-byte.invariant) n (in_units is))

pub returns-in_err-count-clause-refused : goal.returns-in_err-count-clause-refused
returns-in_err-count-clause-refused c =
    let text : List ℕ = c.args.word.now.bytes.now in
    let i : ℕ = c.loop-byte.byte-index in
    let byte : ℕ = get_or text i 0 in
    let p = err_from_is_err_and c.from_residual-in_err-count.result c.from_residual-in_err-count.ensures.1 in
    let none : c.loop-byte.number ≡ None = from_err c.loop-byte.number c.fault-not_a_ttl.result c.in_err-count.field-0.0 c.in_err-count.ensures.value in
    let so : UnitsSoFar text (take i text) (byte ∷ drop (i + 1) text) c.loop-byte.sum None = subst (UnitsSoFar text (take i text) (byte ∷ drop (i + 1) text) c.loop-byte.sum) none (at text i c.loop-byte.sum c.loop-byte.number c.loop-byte-test.true c.loop-byte.invariant) in
    rw p.1 (λ n is short. no_number text (take i text) (drop (i + 1) text) c.loop-byte.sum byte c.if-is_ascii_digit.ensures.cases so n (in_units is))

pub returns-in_err-sum-clause-refused : goal.returns-in_err-sum-clause-refused
returns-in_err-sum-clause-refused c =
    let text : List ℕ = c.args.word.now.bytes.now in
    let i : ℕ = c.loop-byte.byte-index in
    let byte : ℕ = get_or text i 0 in
    let p = err_from_is_err_and c.from_residual-in_err-sum.result c.from_residual-in_err-sum.ensures.1 in
    let unit : unit_seconds byte ≡ Some c.in_ok-seconds.seconds = sym c.unit_seconds.ensures ∙ from_ok c.unit_seconds.result c.fault-not_a_ttl.result c.in_ok-seconds.seconds c.in_ok-seconds.ensures.value in
    let count : c.loop-byte.number ≡ Some c.in_ok-count.count = from_ok c.loop-byte.number c.fault-not_a_ttl.result c.in_ok-count.count c.in_ok-count.ensures.value in
    let none : c.checked_add.result ≡ None = from_err c.checked_add.result c.fault-too_great.result c.in_err-sum.field-0.0 c.in_err-sum.ensures.value in
    let over : 2 ^ 64 ≤ c.loop-byte.sum + c.from.result * c.in_ok-seconds.seconds = not_below (rw none at c.checked_add.ensures) in
    let great : 2 ^ 64 ≤ c.loop-byte.sum + c.in_ok-count.count * c.in_ok-seconds.seconds = subst (λ (n : ℕ). 2 ^ 64 ≤ c.loop-byte.sum + n * c.in_ok-seconds.seconds) c.from.ensures over in
    let so : UnitsSoFar text (take i text) (byte ∷ drop (i + 1) text) c.loop-byte.sum (Some c.in_ok-count.count) = subst (UnitsSoFar text (take i text) (byte ∷ drop (i + 1) text) c.loop-byte.sum) count (at text i c.loop-byte.sum c.loop-byte.number c.loop-byte-test.true c.loop-byte.invariant) in
    rw p.1 (λ n is short. too_great_sum text (take i text) (drop (i + 1) text) c.loop-byte.sum c.in_ok-count.count byte c.in_ok-seconds.seconds unit great so n (in_units is) short)

pub returns-in-Some-clause-refused : goal.returns-in-Some-clause-refused
returns-in-Some-clause-refused c = λ n is short.
    let text : List ℕ = c.args.word.now.bytes.now in
    let i : ℕ = c.loop-byte.byte-index in
    no_last_unit text (take i text) c.loop-byte.sum c.in-Some.field-0 (at_end text i c.loop-byte.sum c.loop-byte.number c.in-Some.field-0 c.loop-byte-test.false c.in-Some.is c.loop-byte.invariant) n (in_units is)
