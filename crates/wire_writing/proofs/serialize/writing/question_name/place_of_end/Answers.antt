use Rattle.std.proofs.Common.{arith, ◌+◌, ◌<◌, length}
use Rattle.wire_names.specs.rr.domain.DomainName.{cut}
use Rattle.wire_names.proofs.lemmas.rr.domain.WireForm.{few_labels, wire_short}
use Rattle.std.proofs.Common.{◌≡◌, ap, subst, sym}
use Rattle.wire_writing.proofs.lemmas.serialize.writing.QuestionEnds.{Passed, none_passed, one_passed, none_at, none_behind, found_here}
use Rattle.wire_writing.proofs.serialize.writing.question_name.place_of_end.Goals as goal
use Rattle.wire_writing.proofs.serialize.writing.question_name.place_of_end.Goals.{then-place-start-via-then-place-start, then-place-start-via-else-place-start+then-passed-count}

pub loop-place-init : goal.loop-place-init
loop-place-init c = none_passed c.args.wire.now c.args.count c.args.start c.requires.wire

pub overflow_add-passed : goal.overflow_add-passed
overflow_add-passed c = omega (arith, c.loop-place.invariant.counted, few_labels (cut c.args.wire.now) c.requires.wire.are)

pub loop-place-preserved : goal.loop-place-preserved
loop-place-preserved c =
    let next = one_passed c.args.wire.now c.args.count c.args.start c.loop-place.place c.loop-place.passed c.loop-place.invariant c.loop-place-test.true c.requires.start in
    subst (λ n. Passed c.args.wire.now c.args.count c.args.start (c.loop-place.place + (1 + n)) (c.loop-place.passed + 1)) (sym c.from.ensures) next

pub returns-then-place-start : goal.returns-then-place-start
returns-then-place-start c = elim c.then-place-start.branch [
  | then-place-start-via-then-place-start w ↦ none_behind c.args.wire.now c.args.count c.args.start c.loop-place.place c.loop-place.passed c.loop-place.invariant c.requires.start w.if-place-start.true
  | then-place-start-via-else-place-start+then-passed-count w ↦ none_at c.args.wire.now c.args.count c.args.start c.loop-place.place c.loop-place.passed c.loop-place.invariant c.requires.start w.if-passed-count.true
]

pub overflow_cast-result : goal.overflow_cast-result
overflow_cast-result c = omega (arith, c.requires.start, wire_short (cut c.args.wire.now) c.requires.wire.are, ap length c.requires.wire.whole)

pub returns : goal.returns
returns c =
    let here : c.args.start ≡ c.loop-place.place = omega (arith, c.loop-place-test.false, c.if-place-start.false) in
    let some : c.loop-place.passed < c.args.count = omega (arith, c.if-passed-count.false) in
    found_here c.args.wire.now c.args.count c.args.start c.loop-place.place c.loop-place.passed c.loop-place.invariant c.requires.count here some
