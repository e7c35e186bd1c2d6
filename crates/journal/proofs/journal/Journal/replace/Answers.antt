-- Where the disk did not fail, the entries were taken out, and no more.
use Rattle.std.proofs.Common.{[]}
use Rattle.journal.proofs.Steps.{cleared_at_least, on_err}
use Rattle.journal.proofs.journal.Journal.replace.Goals as goal

pub returns-in_err-add-clause-kept : goal.returns-in_err-add-clause-kept
returns-in_err-add-clause-kept g c =
    on_err c.from_residual-in_err-add.result
    (cleared_at_least g.D.Disk.seen g.D.Disk.may_leave c.in_err-add.field-0.0 c.args.self.now c.clear.new.self c.add.new.self c.in_err-add.ensures.unwritten (λ of_disk. (c.in_err-add.ensures.failed of_disk).1) c.in_ok-clear.ensures.cleared)

-- A journal's file is left while the entries are taken out, and while the others are added.
pub returns-in_err-add-clause-journal : goal.returns-in_err-add-clause-journal
returns-in_err-add-clause-journal g c = λ mixes before s. c.add.ensures.journal mixes [] (c.in_ok-clear.ensures.cleared before s)

pub returns-clause-journal : goal.returns-clause-journal
returns-clause-journal g c = λ mixes before s. c.add.ensures.journal mixes [] (c.in_ok-clear.ensures.cleared before s)
