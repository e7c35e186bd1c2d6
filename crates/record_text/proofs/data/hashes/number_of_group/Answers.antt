use Rattle.std.proofs.Common.{◌^◌, ◌≤◌, ◌∙◌, ◌<◌, ℕ, List, length, take, get_or, arith}
use Rattle.std.proofs.lemmas.List.{take_more}
use Rattle.std.proofs.lemmas.Int.Digits.{digits_push, digits_value_more}
use Rattle.std.specs.Str.Parse.{digits_value}
use Rattle.record_text.proofs.Digits.{digit_in, too_great}
use Rattle.record_text.proofs.data.hashes.number_of_group.Goals as goal

pub loop-digit-preserved : goal.loop-digit-preserved
loop-digit-preserved c =
    let i : ℕ = c.loop-digit.digit-index in
    let digits : List ℕ = c.args.digits.now in
    let below : i < length digits = omega arith in
    record {
      digits = rw (take_more digits i 0 below) (digits_push 32 (take i digits) (get_or digits i 0) c.loop-digit.invariant.digits (omega (arith, c.in_ok-value.ensures.value.0, c.in_ok-value.ensures.value.1)));
      value = digits_value_more 32 digits i below ∙ omega (arith, c.loop-digit.invariant.value, c.in_ok-value.ensures.value.0, c.from.ensures, c.in_ok-checked_mul.ensures, c.in_ok-number.ensures);
    }

pub returns-in_err-value-clause-none : goal.returns-in_err-value-clause-none
returns-in_err-value-clause-none c =
    let below : c.loop-digit.digit-index < length c.args.digits.now = omega arith in
    rw c.from_residual.ensures (λ n is. absurd (omega (arith, digit_in 32 c.args.digits.now c.loop-digit.digit-index is.0.digits below, c.in_err-value.ensures.none)))

pub returns-in_err-checked_mul-clause-none : goal.returns-in_err-checked_mul-clause-none
returns-in_err-checked_mul-clause-none c =
    let i : ℕ = c.loop-digit.digit-index in
    let below : i < length c.args.digits.now = omega arith in
    let great : 2 ^ 64 ≤ digits_value 32 c.args.digits.now =
    too_great 32 c.args.digits.now i c.loop-digit.number (2 ^ 64) below (omega arith) c.loop-digit.invariant.value (omega (arith, c.in_err-checked_mul.ensures)) in
    rw c.from_residual-in_err-checked_mul.ensures (λ n is. absurd (omega (arith, great, is.0.value, is.1)))
