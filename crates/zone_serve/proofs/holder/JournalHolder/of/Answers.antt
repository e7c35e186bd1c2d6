use Rattle.std.proofs.Common.{rules}
use Rattle.zone_serve.proofs.Loading.{apexes_more}
use Rattle.zone_serve.proofs.holder.JournalHolder.of.Goals as goal

pub loop-journal-preserved : goal.loop-journal-preserved
loop-journal-preserved c =
    rw (c.in_ok-push.ensures.items, c.loop-journal.invariant, apexes_more c.args.journals.now c.loop-journal.journal-index c.journal-item.result (search rules) c.journal-item.is) (search rules)
