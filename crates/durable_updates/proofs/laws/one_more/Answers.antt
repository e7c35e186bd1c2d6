-- One entry more.
use Rattle.durable_updates.proofs.Entries.{one_more}
use Rattle.durable_updates.proofs.laws.one_more.Goals as goal

pub returns : goal.returns
returns c = one_more
