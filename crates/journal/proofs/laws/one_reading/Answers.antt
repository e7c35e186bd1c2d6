-- One reading.
use Rattle.journal.proofs.Recovery.{unique}
use Rattle.journal.proofs.laws.one_reading.Goals as goal

pub returns : goal.returns
returns c = unique
