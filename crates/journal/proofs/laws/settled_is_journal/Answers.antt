-- It is on the disk.
use Rattle.std.proofs.Common.{inl, arith}
use Rattle.journal.proofs.Steps.{rests_journal}
use Rattle.journal.proofs.laws.settled_is_journal.Goals as goal

pub returns-clause-empty : goal.returns-clause-empty
returns-clause-empty g c = inl (omega arith)

pub returns-clause-settled : goal.returns-clause-settled
returns-clause-settled g c = λ journal entries. rests_journal g.D.Disk.seen g.D.Disk.may_leave journal.disk journal.end entries
