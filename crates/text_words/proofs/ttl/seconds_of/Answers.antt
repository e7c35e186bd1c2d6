use Rattle.std.proofs.Common.{◌≡◌, ℕ, ◌^◌, ◌<◌, ◌≤◌, true, false, List, refl, arith, rules}
use Rattle.std.proofs.lemmas.Result.{err_from_is_err_and}
use Rattle.std.specs.Str.Parse.{AllDigits}
use Rattle.text_words.specs.declared.words.Word.{Word}
use Rattle.text_words.specs.Spelling.{IsNoNumberWord, IsNoTime, IsNumber, SpellsTime, SpellsUnits}
use Rattle.text_words.proofs.SpelledOnce.{digits_no_units, in_units, units_once}
use Rattle.text_words.specs.Spelling.SpellsTime.{seconds, units}
use Rattle.text_words.proofs.ttl.seconds_of.Goals as goal

pub returns-then-are_digits-clause-time : goal.returns-then-are_digits-clause-time
returns-then-are_digits-clause-time c = (c.if-word.false, seconds c.in_ok-seconds.ensures.ttl.1, c.in_ok-seconds.ensures.ttl.2)

pub returns-in-Ok-clause-time : goal.returns-in-Ok-clause-time
returns-in-Ok-clause-time c = (c.if-word.false, rw c.in-Ok.ensures.1 (units {text = c.args.word.now.bytes.now} (search rules) c.in_ok-sum.ensures.units), rw c.in-Ok.ensures.1 c.in-Ok.ensures.0)

-- digits that are no number of 32 bits are no time
digits_no_time : (word : Word) → AllDigits 10 word.bytes.now → IsNoNumberWord word → IsNoTime word
digits_no_time word all none n unquoted is short = by_time word.bytes.now n all is (λ number. none n unquoted number short) where
  by_time : (text : List ℕ) (n : ℕ) → AllDigits 10 text → SpellsTime text n → (IsNumber text n → ⊥) → ⊥
  by_time text n all (seconds number) none = none number
  by_time text n all (units some spelled) none = digits_no_units text n all some (in_units spelled)

-- nor are units whose sum has more bits
sum_no_time : (word : Word) (sum : ℕ) → (AllDigits 10 word.bytes.now → ⊥) → SpellsUnits word.bytes.now sum → 2 ^ 32 ≤ sum → IsNoTime word
sum_no_time word sum no_digits spelled great n unquoted is short = by_time word.bytes.now n no_digits spelled is short where
  by_time : (text : List ℕ) (n : ℕ) → (AllDigits 10 text → ⊥) → SpellsUnits text sum → SpellsTime text n → n < 2 ^ 32 → ⊥
  by_time text n no_digits spelled (seconds number) short = no_digits number.digits.1
  by_time text n no_digits spelled (units some other) short = omega (arith, short, great, units_once (in_units other) (in_units spelled) refl)

pub returns-in_err-seconds-clause-refused : goal.returns-in_err-seconds-clause-refused
returns-in_err-seconds-clause-refused c =
    let p = err_from_is_err_and c.from_residual.result c.from_residual.ensures.1 in
    rw p.1 (digits_no_time c.args.word.now (c.if-are_digits.ensures.0 refl) c.in_err-seconds.ensures.refused)

no_digits : (text : List ℕ) → (false ≡ true → ⊥) → (AllDigits 10 text → false ≡ true) → AllDigits 10 text → ⊥
no_digits text other told all = other (told all)

pub returns-in-Err-clause-refused : goal.returns-in-Err-clause-refused
returns-in-Err-clause-refused c =
    sum_no_time c.args.word.now c.in_ok-sum.sum (no_digits c.args.word.now.bytes.now (λ e. cc) c.if-are_digits.ensures.1) c.in_ok-sum.ensures.units (omega (arith, c.in-Err.ensures))
