use Rattle.std.proofs.Common.{◌<◌, ap, arith, length}
use Rattle.std.proofs.lemmas.Grind.{common_steps}
use Rattle.wire_names.specs.rr.domain.DomainName.{cut}
use Rattle.wire_names.proofs.lemmas.rr.domain.WireForm.{few_labels, wire_short, below_at}
use Rattle.wire_names.proofs.lemmas.rr.domain.LabelOrder.{Advance, advance}
use Rattle.wire_names.proofs.rr.domain.compare.label_starts.Goals as goal

pub bounds-starts-count : goal.bounds-starts-count
bounds-starts-count c =
    let few = few_labels (cut c.args.wire.now) c.requires.are in
    omega (arith, few)

pub overflow_add-count : goal.overflow_add-count
overflow_add-count c =
    let few = few_labels (cut c.args.wire.now) c.requires.are in
    omega (arith, few)

pub loop-place-preserved : goal.loop-place-preserved
loop-place-preserved c =
    let a : Advance c.args.wire.now c.loop-place.count c.loop-place.place = advance c.args.wire.now c.requires c.loop-place.count c.loop-place.place c.loop-place.invariant.at c.loop-place-test.true in
    let few = few_labels (cut c.args.wire.now) c.requires.are in
    let room : c.loop-place.count < length c.loop-place.starts = omega (arith, few) in
    record {
      at = omega (arith, a.next, c.from.ensures);
      below = omega (arith, a.below);
      starts = λ k h. grind (arith, common_steps, c.loop-place.invariant.starts k);
    }

pub returns-clause-count : goal.returns-clause-count
returns-clause-count c = below_at (cut c.args.wire.now) c.loop-place.count c.loop-place.invariant.below (omega (arith, ap length c.requires.whole, c.loop-place.invariant.at))

pub returns-clause-few : goal.returns-clause-few
returns-clause-few c =
    let few = few_labels (cut c.args.wire.now) c.requires.are in
    omega (arith, few)

pub overflow_cast-starts : goal.overflow_cast-starts
overflow_cast-starts c =
    let short = wire_short (cut c.args.wire.now) c.requires.are in
    omega (arith, short, ap length c.requires.whole)
