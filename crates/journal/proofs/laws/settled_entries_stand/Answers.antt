-- All of it is on the disk.
use Rattle.journal.proofs.Steps.{rests}
use Rattle.journal.proofs.laws.settled_entries_stand.Goals as goal

pub returns : goal.returns
returns g c = λ journal entries. rests g.D.Disk.seen g.D.Disk.may_leave journal.disk journal.end entries
