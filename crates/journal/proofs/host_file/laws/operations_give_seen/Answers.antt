-- What is owed.
use Rattle.journal.proofs.Owed.{seen_owed, crash_owed}
use Rattle.journal.proofs.host_file.laws.operations_give_seen.Goals as goal

pub returns-clause-seen : goal.returns-clause-seen
returns-clause-seen c = seen_owed

pub returns-clause-crash : goal.returns-clause-crash
returns-clause-crash c = crash_owed
