use Rattle.std.proofs.Common.{◌↔◌, ◌≡◌, ◌∙◌, ◌<◌, ◌-◌, ℕ, false, length, take, drop, ap, length-take, arith, refl, rules, subst}
use Rattle.std.specs.Bool.{IsTrue}
use Rattle.std.proofs.lemmas.Bool.{false≢true}
use Rattle.wire_names.specs.rr.domain.DomainName.{DomainName}
use Rattle.wire_names.specs.representation.NameBytes.{wire_bytes}
use Rattle.wire_names.specs.rr.domain.NameOrder.{Encloses}
use Rattle.wire_names.proofs.lemmas.rr.domain.OrderKeys.{FirstOff, first_off, parent_encloses}
use Rattle.wire_names.proofs.rr.domain.lower_name.LowerName.has_parent_above.Goals as goal

pub overflow_sub-rest : goal.overflow_sub-rest
overflow_sub-rest c =
    let f : FirstOff c.self.inside.name.labels (wire_bytes c.self.inside.key) c.escaped_len.result =
    first_off c.self.inside.name.labels c.as_wire-wire.result.now (wire_bytes c.self.inside.key) _ c.escaped_len.result c.as_wire-wire.ensures.labels (search rules) c.self.invariant.1 (omega (arith, c.from-end.ensures)) c.escaped_len.ensures in
    omega (arith, f.fits, ap length c.as_slice-own.ensures)

pub overflow_sub-rest-2 : goal.overflow_sub-rest-2
overflow_sub-rest-2 c =
    let f : FirstOff c.self.inside.name.labels (wire_bytes c.self.inside.key) c.escaped_len.result =
    first_off c.self.inside.name.labels c.as_wire-wire.result.now (wire_bytes c.self.inside.key) _ c.escaped_len.result c.as_wire-wire.ensures.labels (search rules) c.self.invariant.1 (omega (arith, c.from-end.ensures)) c.escaped_len.ensures in
    omega (arith, f.fits, ap length c.as_slice-own.ensures)

pub returns : goal.returns
returns c =
    let own = c.as_slice-own.result.now in
    let all = c.as_slice-all.result.now in
    let f : FirstOff c.self.inside.name.labels own c.escaped_len.result =
    first_off c.self.inside.name.labels c.as_wire-wire.result.now own _ c.escaped_len.result c.as_wire-wire.ensures.labels (search rules) (c.as_slice-own.ensures ∙ c.self.invariant.1) (omega (arith, c.from-end.ensures)) c.escaped_len.ensures in
    let inside : IsTrue c.are_same.result ↔ (0 < length c.self.inside.name.labels) × Encloses (drop 1 c.self.inside.name.labels) c.other.inside.name.labels =
    parent_encloses c.self.inside.name.labels c.other.inside.name.labels c.as_wire-wire.result.now own all c.escaped_len.result _ c.are_same.result c.self.invariant.0 c.other.invariant.0
    c.as_wire-wire.ensures.labels (search rules) f refl (c.as_slice-all.ensures ∙ c.other.invariant.1) c.are_same.ensures in
    subst (λ (d : DomainName). IsTrue c.are_same.result ↔ (0 < length d.labels) × Encloses (drop 1 d.labels) c.args.other.now.labels) c.self.view_is
    (subst (λ (d : DomainName). IsTrue c.are_same.result ↔ (0 < length c.self.inside.name.labels) × Encloses (drop 1 c.self.inside.name.labels) d.labels) c.other.view_is inside)

pub returns-then-rest-all : goal.returns-then-rest-all
returns-then-rest-all c =
    let own = c.as_slice-own.result.now in
    let all = c.as_slice-all.result.now in
    let rest = length own - c.escaped_len.result - 1 in
    let f : FirstOff c.self.inside.name.labels own c.escaped_len.result =
    first_off c.self.inside.name.labels c.as_wire-wire.result.now own _ c.escaped_len.result c.as_wire-wire.ensures.labels (search rules) (c.as_slice-own.ensures ∙ c.self.invariant.1) (omega (arith, c.from-end.ensures)) c.escaped_len.ensures in
    let longer : IsTrue false ↔ (take rest all ≡ take rest own) = (λ f. absurd (false≢true f), λ e. absurd (omega (arith, ap length e, length-take {A = ℕ}, c.if-rest-all.true))) in
    let inside : IsTrue false ↔ (0 < length c.self.inside.name.labels) × Encloses (drop 1 c.self.inside.name.labels) c.other.inside.name.labels =
    parent_encloses c.self.inside.name.labels c.other.inside.name.labels c.as_wire-wire.result.now own all c.escaped_len.result rest false c.self.invariant.0 c.other.invariant.0
    c.as_wire-wire.ensures.labels (search rules) f refl (c.as_slice-all.ensures ∙ c.other.invariant.1) longer in
    subst (λ (d : DomainName). IsTrue false ↔ (0 < length d.labels) × Encloses (drop 1 d.labels) c.args.other.now.labels) c.self.view_is
    (subst (λ (d : DomainName). IsTrue false ↔ (0 < length c.self.inside.name.labels) × Encloses (drop 1 c.self.inside.name.labels) d.labels) c.other.view_is inside)
