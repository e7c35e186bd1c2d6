use Rattle.std.proofs.Common.{ℕ, List}
use Rattle.std.proofs.lemmas.Result.{err_from_is_err_and}
use Rattle.text_words.specs.Spelling.{Spells, any_byte}
use Rattle.text_data.specs.declared.kinds.ValueKind.TheVariants as value
use Rattle.text_data.specs.ServiceText.{HasNone, IsValue}
use Rattle.text_data.specs.ServiceText.IsValue.{any_bytes}
use Rattle.text_data.proofs.values.any_bytes.Goals as goal

pub returns-clause-is : goal.returns-clause-is
returns-clause-is c = rw (c.without_keys.ensures.listed, c.without_keys.ensures.octets) (any_bytes c.in_ok-octets.ensures.spelled)

none_of : (t : List ℕ) → HasNone (Spells any_byte t) → (listed : List ℕ) → HasNone (IsValue value.Bytes t listed)
none_of t empty listed octets (any_bytes is) = empty octets is

pub returns-in_err-octets-clause-refused : goal.returns-in_err-octets-clause-refused
returns-in_err-octets-clause-refused c =
    let p = err_from_is_err_and c.from_residual.result c.from_residual.ensures.1 in
    rw (p.1, p.2) (λ other. none_of c.args.text.now (c.in_err-octets.ensures.refused other))
