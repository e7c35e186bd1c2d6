use Rattle.std.proofs.Common.{◌≡◌, ◌≤◌, ℕ, List, [], ◌∷◌, Some, length, take, get_or, arith}
use Rattle.std.specs.Char.{IsNotAsciiDigit}
use Rattle.std.specs.List.{slice_get}
use Rattle.std.specs.Str.Parse.{IsNumeral}
use Rattle.std.proofs.lemmas.Str.Parse.{digit_from_value}
use Rattle.text_words.specs.Spelling.SpellsByte.{numbered, escaped}
use Rattle.text_words.proofs.NoBytes.{no_byte_of_digits}
use Rattle.text_words.proofs.escapes.escaped_byte.Goals as goal

first-one : (text : List ℕ) (byte : ℕ) → Some byte ≡ slice_get text 0 → take 1 text ≡ byte ∷ []
first-one [] byte e = absurd (cc)
first-one (x ∷ text) byte e = cc

first-three : (text : List ℕ) (byte : ℕ) → Some byte ≡ slice_get text 0 → 3 ≤ length text → take 3 text ≡ byte ∷ get_or text 1 0 ∷ get_or text 2 0 ∷ []
first-three [] byte e long = absurd (cc)
first-three (x ∷ []) byte e long = absurd (omega arith)
first-three (x ∷ y ∷ []) byte e long = absurd (omega arith)
first-three (x ∷ y ∷ z ∷ text) byte e long = cc

no-digit : (byte : ℕ) → IsNotAsciiDigit byte → IsNumeral 10 (byte ∷ []) → ⊥
no-digit byte out h = grind (arith, digit_from_value byte h.1.0, out)

pub returns-then-not-is_ascii_digit-clause-spelled : goal.returns-then-not-is_ascii_digit-clause-spelled
returns-then-not-is_ascii_digit-clause-spelled c =
    rw (first-one c.args.behind.now c.in_ok-byte.field-0.now c.in_ok-byte.ensures.value) (escaped (no-digit c.in_ok-byte.field-0.now c.if-not-is_ascii_digit.ensures.cases))

pub returns-clause-spelled : goal.returns-clause-spelled
returns-clause-spelled c =
    rw (first-three c.args.behind.now c.in_ok-byte.field-0.now c.in_ok-byte.ensures.value c.if-behind-lt3.false) (numbered c.in_ok-byte_of.ensures.value c.in_ok-byte_of.ensures.small)

pub returns-in_err-byte_of-clause-none : goal.returns-in_err-byte_of-clause-none
returns-in_err-byte_of-clause-none c =
    rw c.from_residual-in_err-byte_of.ensures (no_byte_of_digits c.args.behind.now c.in_ok-byte.field-0.now c.in_ok-byte.ensures.value (omega arith, (c.if-not-is_ascii_digit.ensures.bound, tt)) c.in_err-byte_of.ensures.none)
