use Rattle.std.proofs.Common.{rules, arith, ◌≡◌, ◌+◌, ◌<◌, length, get_or, subst}
use Rattle.wire_writing.proofs.lemmas.serialize.writing.QuestionSteps.{StandsSoFar, so_far_none, so_far_more, so_far_ends}
use Rattle.wire_writing.proofs.serialize.writing.question_notes.full_name.Goals as goal

pub loop-place-init : goal.loop-place-init
loop-place-init c = record { so_far = λ fits. so_far_none c.args.question.now; small = omega arith; few = omega arith }

pub loop-place-preserved : goal.loop-place-preserved
loop-place-preserved c =
    let place = c.loop-place.place in
    let question = c.args.question.now in
    let count = get_or question place 0 in
    let inside : place < length question = omega (arith, c.min-limit.ensures, c.loop-place-test.true) in
    let low : 0 < count = search rules in
    let high : count < 64 = search rules in
    let next : place + 1 + count ≡ place + (1 + c.from.result) = omega (arith, c.from.ensures) in
    record {
      so_far = λ fits. subst (λ p. StandsSoFar question p (c.loop-place.count + 1)) next (so_far_more question place c.loop-place.count (c.loop-place.invariant.so_far (omega (arith, inside))) low high (omega (arith, next)));
      small = omega (arith, high, c.min-limit.ensures, c.loop-place-test.true);
      few = omega (arith, c.loop-place.invariant.few);
    }

pub returns-then-len : goal.returns-then-len
returns-then-len c =
    let zero_here : get_or c.args.question.now c.loop-place.place 0 ≡ 0 = search rules in
    let below : c.loop-place.place < length c.args.question.now = omega (arith, c.min-limit.ensures, c.loop-place-test.true) in
    let small : c.loop-place.place < 255 = omega (arith, c.min-limit.ensures, c.loop-place-test.true) in
    so_far_ends c.args.question.now c.loop-place.place c.loop-place.count (c.loop-place.invariant.so_far (omega (arith, below))) below small zero_here
