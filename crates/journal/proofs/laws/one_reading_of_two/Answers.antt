-- One reading of each.
use Rattle.journal.proofs.Pairs.{one_of_two}
use Rattle.journal.proofs.laws.one_reading_of_two.Goals as goal

pub returns : goal.returns
returns c = one_of_two
