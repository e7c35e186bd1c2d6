-- A moment on the way.
use Rattle.journal.proofs.Owed.{told}
use Rattle.journal.proofs.host_file.laws.crashes_are_told.Goals as goal

pub returns : goal.returns
returns c = told
