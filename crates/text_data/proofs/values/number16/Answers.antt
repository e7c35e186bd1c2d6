use Rattle.std.proofs.Common.{◌<◌, ◌^◌, ℕ, List}
use Rattle.std.proofs.lemmas.Result.{err_from_is_err_and}
use Rattle.text_words.specs.Spelling.{IsNumber}
use Rattle.text_data.specs.declared.kinds.ValueKind.TheVariants as value
use Rattle.text_data.specs.ServiceText.{HasNone, IsValue}
use Rattle.text_data.specs.ServiceText.IsValue.{number16}
use Rattle.text_data.proofs.values.number16.Goals as goal

pub returns-clause-is : goal.returns-clause-is
returns-clause-is c = rw (c.without_keys.ensures.listed, c.without_keys.ensures.octets) (rw (c.in_ok-octets.ensures.items, c.to_be_bytes.ensures) (number16 c.in_ok-number.ensures.number.0 c.in_ok-number.ensures.number.1))

none_of : (t : List ℕ) → HasNone (λ n. IsNumber t n × (n < 2 ^ 16)) → (listed : List ℕ) → HasNone (IsValue value.Number16 t listed)
none_of t empty listed octets (number16 {n = n} is small) = empty n (is, small)

pub returns-in_err-number-clause-refused : goal.returns-in_err-number-clause-refused
returns-in_err-number-clause-refused c =
    let p = err_from_is_err_and c.from_residual.result c.from_residual.ensures.1 in
    rw p.1 (λ other. none_of c.args.text.now c.in_err-number.ensures.refused)
