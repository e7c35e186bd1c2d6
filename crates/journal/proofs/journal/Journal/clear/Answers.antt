-- The first gate is closed, where there are entries.
use Rattle.std.proofs.Common.{◌<◌, inl, sym, subst, arith}
use Rattle.journal.specs.JournalState.{JournalState}
use Rattle.journal.specs.Settled.{IsAtRest}
use Rattle.journal.proofs.Steps.{rests, rests_journal}
use Rattle.journal.proofs.journal.Journal.clear.Goals as goal

pub returns-then-not-is_ready-clause-crash : goal.returns-then-not-is_ready-clause-crash
returns-then-not-is_ready-clause-crash g c = λ entries s file left. inl (rests g.D.Disk.seen g.D.Disk.may_leave c.args.self.now.disk c.args.self.now.end entries s file left)

pub returns-then-self-eq0-clause-crash : goal.returns-then-self-eq0-clause-crash
returns-then-self-eq0-clause-crash g c = λ entries s file left. inl (rests g.D.Disk.seen g.D.Disk.may_leave c.args.self.now.disk c.args.self.now.end entries s file left)

pub returns-in-Ok-clause-crash : goal.returns-in-Ok-clause-crash
returns-in-Ok-clause-crash g c = λ entries s file left.
    let some : 0 < c.self.inside.end = omega arith in
    c.close_first.ensures.crash c.self.inside.end entries (subst (λ (v : JournalState g.row.D.Denot). IsAtRest g.D.Disk.seen g.D.Disk.may_leave v.disk v.end entries) (sym c.self.view_is) s) some file left

pub returns-in-Err-clause-crash : goal.returns-in-Err-clause-crash
returns-in-Err-clause-crash g c = λ entries s file left.
    let some : 0 < c.self.inside.end = omega arith in
    c.close_first.ensures.crash c.self.inside.end entries (subst (λ (v : JournalState g.row.D.Denot). IsAtRest g.D.Disk.seen g.D.Disk.may_leave v.disk v.end entries) (sym c.self.view_is) s) some file (subst (λ (j : JournalState g.row.D.Denot). g.D.Disk.may_leave j.disk file) c.shut.ensures left)

pub returns-then-not-is_ready-clause-journal : goal.returns-then-not-is_ready-clause-journal
returns-then-not-is_ready-clause-journal g c = λ mixes entries s file left. rests_journal g.D.Disk.seen g.D.Disk.may_leave c.args.self.now.disk c.args.self.now.end entries s file left

pub returns-then-self-eq0-clause-journal : goal.returns-then-self-eq0-clause-journal
returns-then-self-eq0-clause-journal g c = λ mixes entries s file left. rests_journal g.D.Disk.seen g.D.Disk.may_leave c.args.self.now.disk c.args.self.now.end entries s file left

pub returns-in-Ok-clause-journal : goal.returns-in-Ok-clause-journal
returns-in-Ok-clause-journal g c = λ mixes entries s file left.
    let some : 0 < c.self.inside.end = omega arith in
    c.close_first.ensures.journal mixes c.self.inside.end entries (subst (λ (v : JournalState g.row.D.Denot). IsAtRest g.D.Disk.seen g.D.Disk.may_leave v.disk v.end entries) (sym c.self.view_is) s) some file left

pub returns-in-Err-clause-journal : goal.returns-in-Err-clause-journal
returns-in-Err-clause-journal g c = λ mixes entries s file left.
    let some : 0 < c.self.inside.end = omega arith in
    c.close_first.ensures.journal mixes c.self.inside.end entries (subst (λ (v : JournalState g.row.D.Denot). IsAtRest g.D.Disk.seen g.D.Disk.may_leave v.disk v.end entries) (sym c.self.view_is) s) some file (subst (λ (j : JournalState g.row.D.Denot). g.D.Disk.may_leave j.disk file) c.shut.ensures left)
