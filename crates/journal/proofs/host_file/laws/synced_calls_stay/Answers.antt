-- Behind a sync.
use Rattle.journal.proofs.Owed.{stays}
use Rattle.journal.proofs.host_file.laws.synced_calls_stay.Goals as goal

pub returns : goal.returns
returns c = stays
