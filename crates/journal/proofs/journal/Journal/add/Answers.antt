-- Entries are staged, and then their gate is opened.
use Rattle.std.proofs.Common.{◌≡◌, ◌+◌, length, inl, sym, ◌∙◌, ap, subst, arith}
use Rattle.journal.specs.Frames.{AreSmall, IsSmall}
use Rattle.journal.specs.JournalState.{JournalState}
use Rattle.journal.specs.Read.{contents}
use Rattle.journal.specs.Settled.{IsAtRest, behind_gate}
use Rattle.journal.proofs.Steps.{rests, rests_journal, rests_more}
use Rattle.journal.proofs.journal.Journal.add.Goals as goal

pub returns-then-not-is_ready-clause-crash : goal.returns-then-not-is_ready-clause-crash
returns-then-not-is_ready-clause-crash g c = λ entries s file left. inl (rests g.D.Disk.seen g.D.Disk.may_leave c.args.self.now.disk c.args.self.now.end entries s file left)

pub returns-then-first-clause-crash : goal.returns-then-first-clause-crash
returns-then-first-clause-crash g c = λ entries s file left. inl (rests g.D.Disk.seen g.D.Disk.may_leave c.args.self.now.disk c.args.self.now.end entries s file left)

pub returns-then-not-are_small-clause-crash : goal.returns-then-not-are_small-clause-crash
returns-then-not-are_small-clause-crash g c = λ entries s file left. inl (rests g.D.Disk.seen g.D.Disk.may_leave c.args.self.now.disk c.args.self.now.end entries s file left)

pub returns-in_default-clause-crash : goal.returns-in_default-clause-crash
returns-in_default-clause-crash g c = λ entries s file left. inl (rests g.D.Disk.seen g.D.Disk.may_leave c.args.self.now.disk c.args.self.now.end entries s file left)

pub returns-then-len-ge-MAX_END-clause-crash : goal.returns-then-len-ge-MAX_END-clause-crash
returns-then-len-ge-MAX_END-clause-crash g c = λ entries s file left. inl (rests g.D.Disk.seen g.D.Disk.may_leave c.args.self.now.disk c.args.self.now.end entries s file left)

pub returns-in-Ok-write-clause-acknowledged : goal.returns-in-Ok-write-clause-acknowledged
returns-in-Ok-write-clause-acknowledged g c = λ entries s.
    let s' : IsAtRest g.D.Disk.seen g.D.Disk.may_leave c.self.inside.disk c.self.inside.end entries =
    subst (λ (v : JournalState g.row.D.Denot). IsAtRest g.D.Disk.seen g.D.Disk.may_leave v.disk v.end entries) (sym c.self.view_is) s in
    let are = c.deref.ensures.value ∙ c.in-Ok.ensures in
    let first : IsSmall c.args.first.now = grind arith in
    let others : AreSmall (contents c.args.others.now) = c.are_small.ensures.small c.if-not-are_small.false in
    let size : c.len-in-Ok-write.result ≡ length (behind_gate c.args.first.now (contents c.args.others.now)) = grind (arith, ap length c.in-Ok.ensures) in
    rests_more g.D.Disk.seen g.D.Disk.may_leave c.self.inside.disk c.self.inside.end entries c.args.first.now (contents c.args.others.now) c.write.new.disk _ s' (first, others)
    (c.in-Ok-write.ensures.opened entries c.args.first.now (contents c.args.others.now) s' are)
    (ap (λ k. c.self.inside.end + k) size)

pub returns-then-not-is_ready-clause-journal : goal.returns-then-not-is_ready-clause-journal
returns-then-not-is_ready-clause-journal g c = λ mixes entries s file left. rests_journal g.D.Disk.seen g.D.Disk.may_leave c.args.self.now.disk c.args.self.now.end entries s file left

pub returns-then-first-clause-journal : goal.returns-then-first-clause-journal
returns-then-first-clause-journal g c = λ mixes entries s file left. rests_journal g.D.Disk.seen g.D.Disk.may_leave c.args.self.now.disk c.args.self.now.end entries s file left

pub returns-then-not-are_small-clause-journal : goal.returns-then-not-are_small-clause-journal
returns-then-not-are_small-clause-journal g c = λ mixes entries s file left. rests_journal g.D.Disk.seen g.D.Disk.may_leave c.args.self.now.disk c.args.self.now.end entries s file left

pub returns-in_default-clause-journal : goal.returns-in_default-clause-journal
returns-in_default-clause-journal g c = λ mixes entries s file left. rests_journal g.D.Disk.seen g.D.Disk.may_leave c.args.self.now.disk c.args.self.now.end entries s file left

pub returns-then-len-ge-MAX_END-clause-journal : goal.returns-then-len-ge-MAX_END-clause-journal
returns-then-len-ge-MAX_END-clause-journal g c = λ mixes entries s file left. rests_journal g.D.Disk.seen g.D.Disk.may_leave c.args.self.now.disk c.args.self.now.end entries s file left

pub returns-in-Ok-write-clause-journal : goal.returns-in-Ok-write-clause-journal
returns-in-Ok-write-clause-journal g c = λ mixes entries s file left.
    let s' : IsAtRest g.D.Disk.seen g.D.Disk.may_leave c.self.inside.disk c.self.inside.end entries =
    subst (λ (v : JournalState g.row.D.Denot). IsAtRest g.D.Disk.seen g.D.Disk.may_leave v.disk v.end entries) (sym c.self.view_is) s in
    let are = c.deref.ensures.value ∙ c.in-Ok.ensures in
    let first : IsSmall c.args.first.now = grind arith in
    let others : AreSmall (contents c.args.others.now) = c.are_small.ensures.small c.if-not-are_small.false in
    c.write.ensures.journal mixes entries c.args.first.now (contents c.args.others.now) (first, others) s' are file left

pub returns-clause-journal : goal.returns-clause-journal
returns-clause-journal g c = λ mixes entries s file left.
    let s' : IsAtRest g.D.Disk.seen g.D.Disk.may_leave c.self.inside.disk c.self.inside.end entries =
    subst (λ (v : JournalState g.row.D.Denot). IsAtRest g.D.Disk.seen g.D.Disk.may_leave v.disk v.end entries) (sym c.self.view_is) s in
    let are = c.deref.ensures.value ∙ c.in-Ok.ensures in
    let first : IsSmall c.args.first.now = grind arith in
    let others : AreSmall (contents c.args.others.now) = c.are_small.ensures.small c.if-not-are_small.false in
    c.write.ensures.journal mixes entries c.args.first.now (contents c.args.others.now) (first, others) s' are file (subst (λ (j : JournalState g.row.D.Denot). g.D.Disk.may_leave j.disk file) c.shut.ensures left)
