use Rattle.std.proofs.Common.{ℕ, false, List}
use Rattle.std.proofs.lemmas.Result.{err_from_is_err_and}
use Rattle.text_data.specs.declared.kinds.ItemKind.TheVariants as item
use Rattle.text_data.specs.declared.kinds.ValueKind.TheVariants as value
use Rattle.text_data.specs.ServiceText.{AreItems, HasNone, IsValue, list_items}
use Rattle.text_data.specs.ServiceText.IsValue.{ipv4}
use Rattle.text_data.proofs.values.ipv4.Goals as goal

pub returns-clause-is : goal.returns-clause-is
returns-clause-is c = rw (c.without_keys.ensures.listed, c.without_keys.ensures.octets) (ipv4 c.in_ok-octets.ensures.are)

none_of : (t : List ℕ) → HasNone (AreItems item.Ipv4 (list_items false t)) → (listed : List ℕ) → HasNone (IsValue value.Ipv4 t listed)
none_of t empty listed octets (ipv4 is) = empty octets is

pub returns-in_err-octets-clause-refused : goal.returns-in_err-octets-clause-refused
returns-in_err-octets-clause-refused c =
    let p = err_from_is_err_and c.from_residual.result c.from_residual.ensures.1 in
    rw (p.1, p.2) (λ other. none_of c.args.text.now (c.in_err-octets.ensures.refused other))
