use Rattle.std.proofs.Common.{◌≡◌, ℕ, List}
use Rattle.std.proofs.lemmas.Result.{err_from_is_err_and}
use Rattle.base64.specs.Engines.{standard}
use Rattle.base64.specs.GeneralPurpose.{IsBytes, encode_of}
use Rattle.text_data.specs.declared.kinds.ValueKind.TheVariants as value
use Rattle.text_data.specs.ServiceText.{HasNone, IsValue}
use Rattle.text_data.specs.ServiceText.IsValue.{base64}
use Rattle.text_data.proofs.values.base64.Goals as goal

pub returns-clause-is : goal.returns-clause-is
returns-clause-is c = rw (c.without_keys.ensures.listed, c.without_keys.ensures.octets) (base64 c.in_ok-octets.ensures.bytes.0 c.in_ok-octets.ensures.bytes.1)

none_of : (t : List ℕ) → HasNone (λ octets. IsBytes octets × (t ≡ encode_of standard octets)) → (listed : List ℕ) → HasNone (IsValue value.Base64 t listed)
none_of t empty listed octets (base64 bytes is) = empty octets (bytes, is)

pub returns-in_err-octets-clause-refused : goal.returns-in_err-octets-clause-refused
returns-in_err-octets-clause-refused c =
    let p = err_from_is_err_and c.from_residual.result c.from_residual.ensures.1 in
    rw (p.1, p.2) (λ other. none_of c.args.text.now (c.in_err-octets.ensures.refused other))
