use Rattle.std.proofs.Common.{◌≡◌, ◌+◌, ◌∷◌, ◌++◌, ◌∙◌, ◌-◌, ℕ, IfOk, subst, length-drop, List, length, drop, take, get_or, ap, sym, arith, []}
use Rattle.std.proofs.lemmas.List.{length-take, take_all}
use Rattle.wire_names.specs.rr.domain.DomainName.{cut}
use Rattle.wire_names.specs.representation.NameBytes.{wire_bytes}
use Rattle.wire_names.specs.representation.OrderKey.{escaped, order_key}
use Rattle.wire_names.proofs.lemmas.rr.domain.WireForm.{below_at}
use Rattle.wire_names.proofs.lemmas.rr.domain.LabelOrder.{Advance, advance, Site, site}
use Rattle.wire_names.proofs.lemmas.rr.domain.OrderKeys.{one_more}
use Rattle.wire_names.proofs.rr.domain.order_key.make_key_in.Goals as goal

pub slice_bounds-put_label-end : goal.slice_bounds-put_label-end
slice_bounds-put_label-end c =
    let a : Advance c.args.wire.now c.loop-place.invariant.count c.loop-place.place = advance c.args.wire.now c.requires.wire c.loop-place.invariant.count c.loop-place.place c.loop-place.invariant.at c.loop-place-test.true in
    omega (arith, a.fits, c.from.ensures)

pub put_label-start-requires-clause-enough : goal.put_label-start-requires-clause-enough
put_label-start-requires-clause-enough c =
    let a : Advance c.args.wire.now c.loop-place.invariant.count c.loop-place.place = advance c.args.wire.now c.requires.wire c.loop-place.invariant.count c.loop-place.place c.loop-place.invariant.at c.loop-place-test.true in
    omega (arith, a.fits, c.from.ensures, c.requires.enough, length-take {A = ℕ}, c.loop-place.invariant.enough)

pub loop-place-preserved : goal.loop-place-preserved
loop-place-preserved c =
    let i : ℕ = c.loop-place.invariant.count in
    let ls : List (List ℕ) = cut c.args.wire.now in
    let a : Advance c.args.wire.now i c.loop-place.place = advance c.args.wire.now c.requires.wire i c.loop-place.place c.loop-place.invariant.at c.loop-place-test.true in
    let s : Site c.args.wire.now c.loop-place.place (get_or ls i []) = site c.args.wire.now c.requires.wire i c.loop-place.place a.below c.loop-place.invariant.at in
    let text : take (c.loop-place.place + 1 + c.from.result - (c.loop-place.place + 1)) (drop (c.loop-place.place + 1) c.args.wire.now) ≡ get_or ls i [] =
    ap (λ (n : ℕ). take n (drop (c.loop-place.place + 1) c.args.wire.now)) (omega (arith, c.from.ensures)) ∙ s.label in
    record {
      count = i + 1;
      below = omega (arith, a.below);
      at = omega (arith, a.next, c.from.ensures);
      within = omega (arith, c.put_label-start.ensures.before, c.loop-place.invariant.within);
      enough = omega (arith, c.put_label-start.ensures.few, c.loop-place.invariant.enough, length-take {A = ℕ}, c.from.ensures);
      made = c.put_label-start.ensures.put
          ∙ ap (λ (t : List ℕ). escaped t ++ 0 ∷ drop c.loop-place.start c.loop-place.room) text
          ∙ ap (λ (t : List ℕ). escaped (get_or ls i []) ++ 0 ∷ t) c.loop-place.invariant.made
          ∙ sym (one_more ls i a.below);
    }

pub returns : goal.returns
returns c =
    let ls : List (List ℕ) = cut c.args.wire.now in
    let all : c.loop-place.invariant.count ≡ length ls = below_at ls c.loop-place.invariant.count c.loop-place.invariant.below (omega (arith, ap length c.requires.wire.whole, c.loop-place.invariant.at)) in
    let key : take (length c.loop-place.room - c.loop-place.start) (drop c.loop-place.start c.loop-place.room) ≡ order_key ls =
    take_all (length c.loop-place.room - c.loop-place.start) (drop c.loop-place.start c.loop-place.room) (omega (arith, length-drop {A = ℕ}))
    ∙ c.loop-place.invariant.made ∙ ap order_key (ap (λ (n : ℕ). take n ls) all ∙ take_all (length ls) ls (omega arith)) in
    subst (λ (bytes : List ℕ). IfOk c.from_slice.result (λ wire. wire_bytes wire ≡ bytes)) key c.from_slice.ensures
