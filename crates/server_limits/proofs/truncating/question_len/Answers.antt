use Rattle.std.proofs.Common.{arith, get_or, refl}
use Rattle.server_limits.specs.Truncating.{none}
use Rattle.server_limits.proofs.Questions.{labels_more, question_here}
use Rattle.server_limits.proofs.truncating.question_len.Goals as goal

pub loop-init : goal.loop-init
loop-init c within = none

pub loop-preserved : goal.loop-preserved
loop-preserved c within =
    let label = get_or c.args.bytes.now c.loop.at 0 in
    labels_more c.args.bytes.now c.loop.at label (c.loop.invariant (omega (arith, c.if-at-bytes.false))) within refl (omega (arith, c.if-label-eq0.false)) c.if-label-gt63.false

pub returns-then-bytes-at-ge5-clause-question : goal.returns-then-bytes-at-ge5-clause-question
returns-then-bytes-at-ge5-clause-question c =
    question_here c.args.bytes.now c.loop.at (c.loop.invariant (omega (arith, c.if-at-bytes.false))) (omega (arith, c.if-at-bytes.false)) c.if-label-eq0.true
