-- Why the journal of a zone is not opened.
use Rattle.std.specs.Prelude.{Bool, true, false}
use Rattle.served_zones.specs.declared.journals.JournalFault.{JournalFault}
use Rattle.served_zones.specs.declared.journals.JournalFault.TheVariants.{NotAJournal}

-- the fault says that one of the files is not a journal
abbrev pub says_no_journal : JournalFault → Bool
says_no_journal NotAJournal = true
says_no_journal other = false
