use Rattle.server.specs.Run.{goes_on}
use Rattle.server.proofs.WorkedRuns.{then_err}
use Rattle.server.proofs.worked.worked_failed_journal.Goals as goal

pub returns : goal.returns
returns c = then_err c.open_journal.result c.open_journal.ensures.err (λ fails events run. goes_on run (fails.0, fails.1, c.open_journal.ensures.others))
