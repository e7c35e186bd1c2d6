use Rattle.std.proofs.Common.{◌≡◌, ◌+◌, false, length, sym, ap, ◌∙◌, arith}
use Rattle.std.specs.List.{list_any}
use Rattle.std.proofs.lemmas.Bool.{leb-true, le-leb}
use Rattle.wire_names.specs.rr.domain.DomainName.{name_len}
use Rattle.wire_names.proofs.lemmas.rr.domain.WireForm.{name_len-wire_form}
use Rattle.name_lists.specs.Names.{is_asterisk}
use Rattle.name_lists.proofs.names.is_covered.Goals as goal

pub returns-then-not-has_byte : goal.returns-then-not-has_byte
returns-then-not-has_byte c =
    let labels = c.args.name.now.labels in
    let n = length c.as_wire.result.now in
    let len : name_len labels ≡ n + 1 = omega (arith, name_len-wire_form labels, ap length c.as_wire.ensures.labels) in
    let plain : list_any is_asterisk c.args.text.now ≡ false = ap (list_any is_asterisk) (sym c.as_bytes.ensures.value) ∙ sym c.has_byte.ensures ∙ c.if-not-has_byte.true in
    (λ t. (plain, omega (arith, len, leb-true n 252 t)), λ both. le-leb n 252 (omega (arith, len, both.1)))
