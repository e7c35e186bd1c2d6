use Rattle.std.proofs.Common.{◌≡◌, ◌+◌, ◌∷◌, ◌++◌, ◌∙◌, ◌-◌, ℕ, List, length, drop, take, get_or, ap, sym, arith, []}
use Rattle.std.proofs.lemmas.List.{length-take, take_all}
use Rattle.wire_names.specs.rr.domain.DomainName.{cut}
use Rattle.wire_names.specs.representation.OrderKey.{escaped, order_key}
use Rattle.wire_names.proofs.lemmas.rr.domain.WireForm.{below_at}
use Rattle.wire_names.proofs.lemmas.rr.domain.LabelOrder.{Advance, advance, Site, site}
use Rattle.wire_names.proofs.lemmas.rr.domain.OrderKeys.{one_more}
use Rattle.wire_names.proofs.rr.domain.order_key.fill_plain_key.Goals as goal

pub slice_bounds-put_plain-end : goal.slice_bounds-put_plain-end
slice_bounds-put_plain-end c =
    let a : Advance c.args.wire.now c.loop-place.invariant.made.count c.loop-place.place = advance c.args.wire.now c.requires.wire c.loop-place.invariant.made.count c.loop-place.place c.loop-place.invariant.made.at c.loop-place-test.true in
    omega (arith, a.fits, c.from.ensures)

pub loop-place-preserved : goal.loop-place-preserved
loop-place-preserved c =
    let i : ℕ = c.loop-place.invariant.made.count in
    let ls : List (List ℕ) = cut c.args.wire.now in
    let a : Advance c.args.wire.now i c.loop-place.place = advance c.args.wire.now c.requires.wire i c.loop-place.place c.loop-place.invariant.made.at c.loop-place-test.true in
    let s : Site c.args.wire.now c.loop-place.place (get_or ls i []) = site c.args.wire.now c.requires.wire i c.loop-place.place a.below c.loop-place.invariant.made.at in
    let text : take (c.loop-place.place + 1 + c.from.result - (c.loop-place.place + 1)) (drop (c.loop-place.place + 1) c.args.wire.now) ≡ get_or ls i [] =
    ap (λ (n : ℕ). take n (drop (c.loop-place.place + 1) c.args.wire.now)) (omega (arith, c.from.ensures)) ∙ s.label in
    let exact : c.in-Some.before + (c.loop-place.place + 1 + c.from.result) ≡ length c.args.wire.now =
    omega (arith, c.in-Some.ensures.0, c.loop-place.invariant.exact, length-take {A = ℕ}, a.fits, c.from.ensures) in
    record {
      made = record {
        count = i + 1;
        below = omega (arith, a.below);
        at = omega (arith, a.next, c.from.ensures);
        within = omega (arith, exact, c.requires.exact);
        enough = omega (arith, exact, c.requires.exact);
        made = c.in-Some.ensures.1
            ∙ ap (λ (t : List ℕ). escaped t ++ 0 ∷ drop c.loop-place.start c.loop-place.room) text
            ∙ ap (λ (t : List ℕ). escaped (get_or ls i []) ++ 0 ∷ t) c.loop-place.invariant.made.made
            ∙ sym (one_more ls i a.below);
      };
      exact = exact;
    }

pub returns : goal.returns
returns c = λ t.
    let ls : List (List ℕ) = cut c.args.wire.now in
    let all : c.loop-place.invariant.made.count ≡ length ls = below_at ls c.loop-place.invariant.made.count c.loop-place.invariant.made.below (omega (arith, ap length c.requires.wire.whole, c.loop-place.invariant.made.at)) in
    let begin : 0 ≡ c.loop-place.start = omega (arith, c.loop-place.invariant.exact, c.loop-place-test.false) in
    ap (λ (n : ℕ). drop n c.loop-place.room) begin ∙ c.loop-place.invariant.made.made
    ∙ ap order_key (ap (λ (n : ℕ). take n ls) all ∙ take_all (length ls) ls (omega arith))

pub put_plain-requires-clause-some : goal.put_plain-requires-clause-some
put_plain-requires-clause-some c =
    let i : ℕ = c.loop-place.invariant.made.count in
    let ls : List (List ℕ) = cut c.args.wire.now in
    let a : Advance c.args.wire.now i c.loop-place.place = advance c.args.wire.now c.requires.wire i c.loop-place.place c.loop-place.invariant.made.at c.loop-place-test.true in
    let s : Site c.args.wire.now c.loop-place.place (get_or ls i []) = site c.args.wire.now c.requires.wire i c.loop-place.place a.below c.loop-place.invariant.made.at in
    let text : take (c.loop-place.place + 1 + c.from.result - (c.loop-place.place + 1)) (drop (c.loop-place.place + 1) c.args.wire.now) ≡ get_or ls i [] =
    ap (λ (n : ℕ). take n (drop (c.loop-place.place + 1) c.args.wire.now)) (omega (arith, c.from.ensures)) ∙ s.label in
    omega (arith, (c.requires.wire.are.each i [] a.below).0, ap length text)
