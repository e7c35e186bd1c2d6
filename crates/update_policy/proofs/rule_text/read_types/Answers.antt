use Rattle.std.proofs.Common.{rules}
use Rattle.update_policy.proofs.Words.{types_more}
use Rattle.update_policy.proofs.rule_text.read_types.Goals as goal

pub loop-word-preserved : goal.loop-word-preserved
loop-word-preserved c =
    rw c.in_ok-push.ensures.ok
    (types_more c.args.words.now c.loop-word.word-index _ c.loop-word.types c.in_ok-read_type.field-0 (search rules) c.loop-word.invariant c.in_ok-read_type.ensures)
