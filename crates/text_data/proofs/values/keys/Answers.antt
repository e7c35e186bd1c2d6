use Rattle.std.proofs.Common.{◌≡◌, ◌∙◌, ℕ, false, true, List, sym, ap, subst}
use Rattle.std.proofs.lemmas.Result.{err_from_is_err_and}
use Rattle.text_data.specs.declared.kinds.ValueKind.TheVariants as value
use Rattle.text_data.specs.ServiceText.{AreKeys, HasNone, IsValue, are_distinct, ascending, list_items, listed_key}
use Rattle.text_data.specs.ServiceText.IsValue.{listed_keys}
use Rattle.text_data.proofs.Once.{keys_once}
use Rattle.text_data.proofs.values.keys.Goals as goal

is_keys : (t keys octets : List ℕ) → AreKeys (list_items false t) keys → are_distinct keys ≡ true → octets ≡ ascending (listed_key keys) 65536 → IsValue value.Keys t keys octets
is_keys t keys octets are apart written = subst (IsValue value.Keys t keys) (sym written) (listed_keys are apart)

pub returns-then-is_set-clause-is : goal.returns-then-is_set-clause-is
returns-then-is_set-clause-is c = is_keys c.args.text.now c.in_ok-listed.listed.items c.in_ok-octets.octets.items c.in_ok-listed.ensures.listed (sym (rw c.as_slice.ensures.value at c.are_distinct-is_set.ensures) ∙ c.if-is_set.true) (rw c.as_slice-then-is_set.ensures.value at c.in_ok-octets.ensures)

none_of : (t : List ℕ) → HasNone (AreKeys (list_items false t)) → (listed : List ℕ) → HasNone (IsValue value.Keys t listed)
none_of t empty listed octets (listed_keys are apart) = empty listed are

pub returns-in_err-listed-clause-refused : goal.returns-in_err-listed-clause-refused
returns-in_err-listed-clause-refused c =
    let p = err_from_is_err_and c.from_residual.result c.from_residual.ensures.1 in
    rw (p.1, p.2) (λ other. none_of c.args.text.now (c.in_err-listed.ensures.refused other))

twice : (t keys : List ℕ) → AreKeys (list_items false t) keys → are_distinct keys ≡ false → (listed : List ℕ) → HasNone (IsValue value.Keys t listed)
twice t keys are not_apart listed octets (listed_keys other apart) =
    let same : are_distinct keys ≡ are_distinct listed = ap are_distinct (keys_once (list_items false t) keys listed are other) in
    absurd (cc)

pub returns-clause-refused : goal.returns-clause-refused
returns-clause-refused c = λ other. twice c.args.text.now c.in_ok-listed.listed.items c.in_ok-listed.ensures.listed (sym (rw c.as_slice.ensures.value at c.are_distinct-is_set.ensures) ∙ c.if-is_set.false)
