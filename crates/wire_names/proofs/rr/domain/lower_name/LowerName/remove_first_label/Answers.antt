use Rattle.std.proofs.Common.{◌≡◌, ◌∙◌, ◌-◌, ℕ, List, length, take, drop, map, ap, sym, arith, rules}
use Rattle.std.proofs.lemmas.List.{drop-map}
use Rattle.wire_names.specs.rr.domain.DomainName.{DomainName}
use Rattle.wire_names.specs.representation.NameBytes.{wire_bytes}
use Rattle.wire_names.specs.rr.domain.NameOrder.{lower_label}
use Rattle.wire_names.specs.representation.OrderKey.{order_key}
use Rattle.wire_names.proofs.lemmas.rr.domain.OrderKeys.{FirstOff, first_off}
use Rattle.wire_names.proofs.rr.domain.lower_name.LowerName.remove_first_label.Goals as goal

pub overflow_sub-rest : goal.overflow_sub-rest
overflow_sub-rest c =
    let f : FirstOff c.self.inside.name.labels (wire_bytes c.self.inside.key) c.escaped_len.result =
    first_off c.self.inside.name.labels c.as_wire-wire.result.now (wire_bytes c.self.inside.key) _ c.escaped_len.result c.as_wire-wire.ensures.labels (search rules) c.self.invariant.1 (omega (arith, c.from-end.ensures)) c.escaped_len.ensures in
    omega (arith, f.fits, ap length c.as_slice.ensures)

pub overflow_sub-rest-2 : goal.overflow_sub-rest-2
overflow_sub-rest-2 c =
    let f : FirstOff c.self.inside.name.labels (wire_bytes c.self.inside.key) c.escaped_len.result =
    first_off c.self.inside.name.labels c.as_wire-wire.result.now (wire_bytes c.self.inside.key) _ c.escaped_len.result c.as_wire-wire.ensures.labels (search rules) c.self.invariant.1 (omega (arith, c.from-end.ensures)) c.escaped_len.ensures in
    omega (arith, f.fits, ap length c.as_slice.ensures)

pub invariant_of-self : goal.invariant_of-self
invariant_of-self c =
    let f : FirstOff c.self.inside.name.labels (wire_bytes c.self.inside.key) c.escaped_len.result =
    first_off c.self.inside.name.labels c.as_wire-wire.result.now (wire_bytes c.self.inside.key) _ c.escaped_len.result c.as_wire-wire.ensures.labels (search rules) c.self.invariant.1 (omega (arith, c.from-end.ensures)) c.escaped_len.ensures in
    let left : c.remove_first_label.new.self.labels ≡ drop 1 c.self.inside.name.labels = ap (λ (d : DomainName). d.labels) c.remove_first_label.ensures in (
      ap (map lower_label) left ∙ sym (drop-map lower_label 1 c.self.inside.name.labels) ∙ ap (drop 1) c.self.invariant.0 ∙ sym left,
      c.truncate.ensures ∙ ap (λ (bytes : List ℕ). take (length bytes - c.escaped_len.result - 1) (wire_bytes c.self.inside.key)) c.as_slice.ensures ∙ f.rest ∙ ap order_key (sym left),
    )
