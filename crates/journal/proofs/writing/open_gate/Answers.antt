-- The gate is opened.
use Rattle.std.proofs.Common.{arith}
use Rattle.journal.proofs.Steps.{opening, opening_journal, opened}
use Rattle.journal.proofs.writing.open_gate.Goals as goal

pub returns-in_err-put-clause-crash : goal.returns-in_err-put-clause-crash
returns-in_err-put-clause-crash g c = λ entries first others small s file left.
    opening g.D.Disk.seen g.D.Disk.may_leave c.args.disk.now c.args.end entries first others s small (g.D.Disk.may_leave c.put.new.disk) c.put.ensures.crash file left

pub returns-clause-crash : goal.returns-clause-crash
returns-clause-crash g c = λ entries first others small s file left.
    opening g.D.Disk.seen g.D.Disk.may_leave c.args.disk.now c.args.end entries first others s small (g.D.Disk.may_leave c.put.new.disk) c.put.ensures.crash file left

pub returns-clause-opened : goal.returns-clause-opened
returns-clause-opened g c = λ entries first others s.
    record {
      junk = s.junk;
      file = opened g.D.Disk.seen g.D.Disk.may_leave c.args.disk.now c.args.end entries first others s c.put.new.disk c.put.ensures.others (c.in_ok-put.ensures.written (omega arith));
      durable = c.in_ok-put.ensures.durable;
    }

pub returns-in_err-put-clause-journal : goal.returns-in_err-put-clause-journal
returns-in_err-put-clause-journal g c = λ mixes entries first others small s file left.
    opening_journal g.D.Disk.seen g.D.Disk.may_leave c.args.disk.now c.args.end entries first others s small (g.D.Disk.may_leave c.put.new.disk) (c.put.ensures.mixed (mixes c.args.disk.now) (omega arith)) file left

pub returns-clause-journal : goal.returns-clause-journal
returns-clause-journal g c = λ mixes entries first others small s file left.
    opening_journal g.D.Disk.seen g.D.Disk.may_leave c.args.disk.now c.args.end entries first others s small (g.D.Disk.may_leave c.put.new.disk) (c.put.ensures.mixed (mixes c.args.disk.now) (omega arith)) file left
