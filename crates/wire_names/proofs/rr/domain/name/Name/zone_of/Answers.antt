use Rattle.std.proofs.Common.{◌+◌, ◌<◌, ◌≤◌, ◌∙◌, ap, sym, subst, arith, map, List, ℕ, length, drop, take, ◌-◌, get_or}
use Rattle.std.specs.Str.{bytes_eq}
use Rattle.std.specs.Char.{to_ascii_lowercase}
use Rattle.std.proofs.lemmas.List.Elements.{recursion_from_All}
use Rattle.std.proofs.lemmas.List.{take_rest}
use Rattle.wire_names.specs.rr.domain.DomainName.{DomainName, wire_form, AreLabels, IsLabel}
use Rattle.wire_names.proofs.lemmas.rr.domain.Ends.{Left, Next, goes_on, ends_here, ends-decides}
use Rattle.wire_names.proofs.lemmas.rr.domain.SameNames.{decided}
use Rattle.wire_names.proofs.rr.domain.name.Name.zone_of.Goals as goal

pub loop-place-preserved : goal.loop-place-preserved
loop-place-preserved c =
    let ns : List (List ℕ) = c.args.self.now.labels in
    let all : List (List ℕ) = c.args.other.now.labels in
    let bytes : List ℕ = c.as_wire-all.result.now in
    let place : ℕ = c.loop-place.place in
    let lt : place + length (wire_form ns) < length bytes = omega (arith, ap length c.as_wire-own.ensures.labels) in
    let n : Next ns all bytes place (get_or bytes place 0) = goes_on ns all bytes place c.loop-place.invariant.left lt in
    record { left = subst (λ k. Left ns all bytes (place + (1 + k))) (sym c.from.ensures) n.left; below = omega (arith, n.fits) }

pub returns : goal.returns
returns c =
    let ns : List (List ℕ) = c.args.self.now.labels in
    let bytes : List ℕ = c.as_wire-all.result.now in
    let place : ℕ = c.loop-place.place in
    let left : Left ns c.args.other.now.labels bytes place = c.loop-place.invariant.left in
    let own : AreLabels ns = subst AreLabels (ap (λ (d : DomainName). d.labels) c.self.view_is) c.self.invariant.are in
    let few : length (wire_form left.labels) ≤ length (wire_form ns) = omega (arith, left.size, ap length c.as_wire-own.ensures.labels) in
    ends-decides ns c.args.other.now.labels _
    (decided _ _ _ c.eq_ignore_ascii_case.ensures.test
    ∙ ap (λ (s : List ℕ). bytes_eq (map to_ascii_lowercase s) (map to_ascii_lowercase (take (length bytes - place) (drop place bytes)))) c.as_wire-own.ensures.labels
    ∙ ap (λ (s : List ℕ). bytes_eq (map to_ascii_lowercase (wire_form ns)) (map to_ascii_lowercase s)) (take_rest bytes place ∙ left.stand)
    ∙ ends_here ns left.labels (recursion_from_All IsLabel ns own.each) left.are few
    ∙ left.same)
