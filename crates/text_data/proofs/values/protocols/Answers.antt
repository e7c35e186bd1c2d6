use Rattle.std.proofs.Common.{ℕ, false, List, sym, subst}
use Rattle.std.proofs.lemmas.Result.{err_from_is_err_and}
use Rattle.text_words.specs.Spelling.{BytesSpelledOnce, Spells, any_byte}
use Rattle.text_data.specs.declared.kinds.ItemKind.TheVariants as item
use Rattle.text_data.specs.declared.kinds.ValueKind.TheVariants as value
use Rattle.text_data.specs.ServiceText.{AreItems, HasNone, IsValue, list_items}
use Rattle.text_data.specs.ServiceText.IsValue.{protocols}
use Rattle.text_data.proofs.values.protocols.Goals as goal

pub returns-clause-is : goal.returns-clause-is
returns-clause-is c = rw (c.without_keys.ensures.listed, c.without_keys.ensures.octets) (protocols c.in_ok-bytes.ensures.spelled (rw c.as_slice.ensures.value at c.in_ok-octets.ensures.are))

none_of : (t : List ℕ) → HasNone (Spells any_byte t) → (listed : List ℕ) → HasNone (IsValue value.Protocols t listed)
none_of t empty listed octets (protocols {bytes = bytes} is are) = empty bytes is

pub returns-in_err-bytes-clause-refused : goal.returns-in_err-bytes-clause-refused
returns-in_err-bytes-clause-refused c =
    let p = err_from_is_err_and c.from_residual.result c.from_residual.ensures.1 in
    rw (p.1, p.2) (λ other. none_of c.args.text.now (c.in_err-bytes.ensures.refused other))

no_items : BytesSpelledOnce → (t bytes : List ℕ) → Spells any_byte t bytes → HasNone (AreItems item.Protocol (list_items false bytes)) → (listed : List ℕ) → HasNone (IsValue value.Protocols t listed)
no_items once t bytes is empty listed octets (protocols {bytes = others} other are) = empty octets (subst (λ (bs : List ℕ). AreItems item.Protocol (list_items false bs) octets) (sym (once t bytes others is other)) are)

pub returns-in_err-octets-clause-refused : goal.returns-in_err-octets-clause-refused
returns-in_err-octets-clause-refused c =
    let p = err_from_is_err_and c.from_residual-in_err-octets.result c.from_residual-in_err-octets.ensures.1 in
    rw (p.1, p.2) (λ other. no_items c.words_spell_once.ensures.bytes c.args.text.now c.in_ok-bytes.bytes.items c.in_ok-bytes.ensures.spelled (rw c.as_slice.ensures.value at c.in_err-octets.ensures.refused other))
