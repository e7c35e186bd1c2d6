use Rattle.server.specs.Run.{goes_on}
use Rattle.server.proofs.worked.worked_journal.Goals as goal

pub returns : goal.returns
returns c = λ is events run.
    goes_on
    (goes_on
    (goes_on (goes_on run (c.in_ok-open_journal.ensures.ok, c.in_ok-open_journal.ensures.others)) (c.begin_batch.ensures.begin, c.begin_batch.ensures.others))
    (c.end_batch-ended.ensures.settle is, c.end_batch-ended.ensures.others))
    (c.stop_updates.ensures.stops, c.stop_updates.ensures.others)
