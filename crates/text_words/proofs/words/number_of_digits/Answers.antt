use Rattle.std.proofs.Common.{◌∙◌, ◌+◌, ◌<◌, ℕ, List, length, take, get_or, arith}
use Rattle.std.proofs.lemmas.List.{take_more}
use Rattle.std.proofs.lemmas.Int.Digits.{digits_push, digits_value_more}
use Rattle.std.proofs.lemmas.Str.{digit_value_digit}
use Rattle.text_words.proofs.NoUnits.{no_digit_at, too_great}
use Rattle.text_words.proofs.words.number_of_digits.Goals as goal

pub loop-byte-preserved : goal.loop-byte-preserved
loop-byte-preserved c =
    let i : ℕ = c.loop-byte.byte-index in
    let bytes : List ℕ = c.args.bytes.now in
    let below : i < length bytes = omega arith in
    record {
      digits = rw (take_more bytes i 0 below) (digits_push 10 (take i bytes) (get_or bytes i 0) c.loop-byte.invariant.digits c.if-not-is_ascii_digit.ensures.bound);
      value = digits_value_more 10 bytes i below ∙ omega (arith, c.loop-byte.invariant.value, digit_value_digit (get_or bytes i 0) c.if-not-is_ascii_digit.ensures.cases, c.from.ensures, c.in_ok-checked_mul.ensures, c.in_ok-number.ensures);
      small = omega (arith, c.in_ok-number.ensures);
    }

pub returns-then-not-is_ascii_digit-clause-none : goal.returns-then-not-is_ascii_digit-clause-none
returns-then-not-is_ascii_digit-clause-none c = λ n is short. no_digit_at c.args.bytes.now c.loop-byte.byte-index c.loop-byte-test.true c.if-not-is_ascii_digit.ensures.cases is.digits.1

pub returns-in_err-checked_mul-clause-none : goal.returns-in_err-checked_mul-clause-none
returns-in_err-checked_mul-clause-none c =
    let i : ℕ = c.loop-byte.byte-index in
    let bytes : List ℕ = c.args.bytes.now in
    rw c.from_residual.ensures (too_great bytes (i + 1) (omega (arith, digits_value_more 10 bytes i c.loop-byte-test.true, c.loop-byte.invariant.value, c.in_err-checked_mul.ensures)))

pub returns-in_err-number-clause-none : goal.returns-in_err-number-clause-none
returns-in_err-number-clause-none c =
    let i : ℕ = c.loop-byte.byte-index in
    let bytes : List ℕ = c.args.bytes.now in
    rw c.from_residual-in_err-number.ensures (too_great bytes (i + 1)
    (omega (arith, digits_value_more 10 bytes i c.loop-byte-test.true, c.loop-byte.invariant.value, digit_value_digit (get_or bytes i 0) c.if-not-is_ascii_digit.ensures.cases, c.from.ensures, c.in_ok-checked_mul.ensures, c.in_err-number.ensures)))
