-- Kinds of errors.
use Rattle.std.specs.Prelude.{Bool, true, false}
use Rattle.journal.specs.declared.error.JournalError.{JournalError}
use Rattle.journal.specs.declared.error.JournalError.TheVariants.{Disk}
use Rattle.journal.specs.declared.error.RecoverError.{RecoverError}
use Rattle.journal.specs.declared.error.RecoverError.TheVariants.{NotAJournal}

-- the disk has failed, so that it is open what was written
abbrev pub is_of_disk : JournalError → Bool
is_of_disk (Disk e) = true
is_of_disk other = false

-- the file is refused, since it is no journal's
abbrev pub is_refusal : RecoverError → Bool
is_refusal NotAJournal = true
is_refusal other = false
