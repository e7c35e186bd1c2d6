use Rattle.std.proofs.Common.{◌≡◌, ◌+◌, ◌≤◌, ◌∙◌, ℕ, List, [], ap, arith, get_or, length, rules}
use Rattle.wire_names.specs.rr.domain.DomainName.{wire_form}
use Rattle.wire_names.proofs.lemmas.rr.domain.WireForm.{Step, step_below}
use Rattle.zone_answers.proofs.redirections.front_len.Goals as goal

pub bounds-wire-place : goal.bounds-wire-place
bounds-wire-place c =
    let ls : List (List ℕ) = c.args.name.now.labels in
    let s : Step ls c.loop.counter = step_below ls c.loop.counter (omega (arith, c.loop-test.true, c.requires)) in
    omega (arith, ap length c.as_wire-wire.ensures.labels, c.loop.invariant, s.next, s.fits)

pub overflow_add-place-in-loop : goal.overflow_add-place-in-loop
overflow_add-place-in-loop c =
    let ls : List (List ℕ) = c.args.name.now.labels in
    let s : Step ls c.loop.counter = step_below ls c.loop.counter (omega (arith, c.loop-test.true, c.requires)) in
    let b : c.from.result ≡ length (get_or ls c.loop.counter []) = c.from.ensures ∙ ap (λ xs. get_or xs c.loop.place 0) c.as_wire-wire.ensures.labels ∙ ap (λ k. get_or (wire_form ls) k 0) c.loop.invariant ∙ s.count in
    let small : c.loop.place + (1 + c.from.result) ≤ length c.as_wire-wire.result.now = omega (arith, ap length c.as_wire-wire.ensures.labels, c.loop.invariant, s.next, s.fits, b) in
    search rules

pub loop-preserved : goal.loop-preserved
loop-preserved c =
    let ls : List (List ℕ) = c.args.name.now.labels in
    let s : Step ls c.loop.counter = step_below ls c.loop.counter (omega (arith, c.loop-test.true, c.requires)) in
    let b : c.from.result ≡ length (get_or ls c.loop.counter []) = c.from.ensures ∙ ap (λ xs. get_or xs c.loop.place 0) c.as_wire-wire.ensures.labels ∙ ap (λ k. get_or (wire_form ls) k 0) c.loop.invariant ∙ s.count in
    omega (arith, c.loop.invariant, s.next, b)
