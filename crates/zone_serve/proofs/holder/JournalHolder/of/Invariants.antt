-- The apexes so far are those of the journals so far.
use Rattle.std.proofs.Common.{◌≡◌, take}
use Rattle.zone_serve.specs.Journals.{apexes_of}
use Rattle.zone_serve.proofs.holder.JournalHolder.of.Given as goal

abbrev pub invariant-loop-journal : goal.invariant-loop-journal
invariant-loop-journal l = l.apexes.items ≡ apexes_of (take l.journal-index l.journals)
