use Rattle.std.proofs.Common.{◌≡◌, ◌<◌, ◌∙◌, ℕ, List, ap, arith, get_or, length, []}
use Rattle.wire_names.specs.rr.domain.DomainName.{wire_form, label_offset}
use Rattle.wire_names.proofs.lemmas.rr.domain.WireForm.{Step, step, below_at}
use Rattle.zone_answers.proofs.redirections.label_count.Goals as goal

pub loop-place-preserved : goal.loop-place-preserved
loop-place-preserved c =
    let ls : List (List ℕ) = c.args.name.now.labels in
    let i : ℕ = c.loop-place.count in
    let lt : label_offset ls i < length (wire_form ls) = omega (arith, ap length c.as_wire-wire.ensures.labels, c.loop-place.invariant.at) in
    let s : Step ls i = step ls i lt in
    let b : c.from.result ≡ length (get_or ls i []) = c.from.ensures ∙ ap (λ xs. get_or xs c.loop-place.place 0) c.as_wire-wire.ensures.labels ∙ ap (λ k. get_or (wire_form ls) k 0) c.loop-place.invariant.at ∙ s.count in
    record { at = omega (arith, s.next); below = omega (arith, s.below); small = omega arith }

pub returns : goal.returns
returns c =
    let ls : List (List ℕ) = c.args.name.now.labels in
    below_at ls c.loop-place.count c.loop-place.invariant.below (omega (arith, ap length c.as_wire-wire.ensures.labels, c.loop-place.invariant.at))
