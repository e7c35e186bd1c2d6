use Rattle.std.proofs.Common.{◌≡◌, ◌≤◌, ℕ, List, length, ap, arith}
use Rattle.std.proofs.lemmas.Result.{err_from_is_err_and}
use Rattle.text_words.specs.Spelling.{BytesSpelledOnce, Spells, any_byte}
use Rattle.text_data.specs.declared.kinds.ValueKind.TheVariants as value
use Rattle.text_data.specs.ServiceText.{HasNone, IsValue}
use Rattle.text_data.specs.ServiceText.IsValue.{some_bytes}
use Rattle.text_data.proofs.values.some_bytes.Goals as goal

pub returns-then-len-gt0-clause-is : goal.returns-then-len-gt0-clause-is
returns-then-len-gt0-clause-is c = rw (c.without_keys.ensures.listed, c.without_keys.ensures.octets) (some_bytes c.in_ok-octets.ensures.spelled (omega (arith, c.if-len-gt0.true, c.len-len.ensures, c.in_ok-octets.octets.ok.0)))

none_of : (t : List ℕ) → HasNone (Spells any_byte t) → (listed : List ℕ) → HasNone (IsValue value.Text t listed)
none_of t empty listed octets (some_bytes is some) = empty octets is

pub returns-in_err-octets-clause-refused : goal.returns-in_err-octets-clause-refused
returns-in_err-octets-clause-refused c =
    let p = err_from_is_err_and c.from_residual.result c.from_residual.ensures.1 in
    rw (p.1, p.2) (λ other. none_of c.args.text.now (c.in_err-octets.ensures.refused other))

too_short : BytesSpelledOnce → (t bytes : List ℕ) → Spells any_byte t bytes → length bytes ≤ 0 → (listed : List ℕ) → HasNone (IsValue value.Text t listed)
too_short once t bytes is short listed octets (some_bytes other some) = let same : length bytes ≡ length octets = ap length (once t bytes octets is other) in absurd (omega (arith, same, short, some))

pub returns-clause-refused : goal.returns-clause-refused
returns-clause-refused c = λ other. too_short c.words_spell_once.ensures.bytes c.args.text.now c.in_ok-octets.octets.items c.in_ok-octets.ensures.spelled (omega (arith, c.if-len-gt0.false, c.len-len.ensures, c.in_ok-octets.octets.ok.0))
