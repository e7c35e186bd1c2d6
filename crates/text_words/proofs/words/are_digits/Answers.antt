use Rattle.std.proofs.Common.{ℕ, List, take, get_or, subst, refl, arith}
use Rattle.std.proofs.lemmas.List.{take_all, take_more}
use Rattle.std.proofs.lemmas.Int.Digits.{digits_push}
use Rattle.std.specs.Str.Parse.{AllDigits}
use Rattle.text_words.proofs.NoUnits.{no_digit_at}
use Rattle.text_words.proofs.words.are_digits.Goals as goal

pub loop-byte-preserved : goal.loop-byte-preserved
loop-byte-preserved c =
    let i : ℕ = c.loop-byte.byte-index in
    let bytes : List ℕ = c.args.bytes.now in
    rw (take_more bytes i 0 c.loop-byte-test.true) (digits_push 10 (take i bytes) (get_or bytes i 0) c.loop-byte.invariant c.if-not-is_ascii_digit.ensures.bound)

pub returns-then-not-is_ascii_digit : goal.returns-then-not-is_ascii_digit
returns-then-not-is_ascii_digit c = (λ holds. absurd (cc), λ all. absurd (no_digit_at c.args.bytes.now c.loop-byte.byte-index c.loop-byte-test.true c.if-not-is_ascii_digit.ensures.cases all))

pub returns : goal.returns
returns c = (λ holds. subst (AllDigits 10) (take_all c.loop-byte.byte-index c.args.bytes.now (omega arith)) c.loop-byte.invariant, λ all. refl)
