-- Without entries nothing is written.
use Rattle.std.proofs.Common.{inl}
use Rattle.journal.proofs.Steps.{rests, rests_journal}
use Rattle.journal.proofs.journal.Journal.append_all.Goals as goal

pub returns-then-not-self-clause-crash : goal.returns-then-not-self-clause-crash
returns-then-not-self-clause-crash g c = λ before s file left. inl (rests g.D.Disk.seen g.D.Disk.may_leave c.args.self.now.disk c.args.self.now.end before s file left)

pub returns-in_default-clause-crash : goal.returns-in_default-clause-crash
returns-in_default-clause-crash g c = λ before s file left. inl (rests g.D.Disk.seen g.D.Disk.may_leave c.args.self.now.disk c.args.self.now.end before s file left)

pub returns-then-not-self-clause-journal : goal.returns-then-not-self-clause-journal
returns-then-not-self-clause-journal g c = λ mixes before s file left. rests_journal g.D.Disk.seen g.D.Disk.may_leave c.args.self.now.disk c.args.self.now.end before s file left

pub returns-in_default-clause-journal : goal.returns-in_default-clause-journal
returns-in_default-clause-journal g c = λ mixes before s file left. rests_journal g.D.Disk.seen g.D.Disk.may_leave c.args.self.now.disk c.args.self.now.end before s file left
