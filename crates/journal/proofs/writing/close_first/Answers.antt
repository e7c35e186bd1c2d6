-- The first gate is closed.
use Rattle.std.proofs.Common.{arith}
use Rattle.journal.proofs.Steps.{clearing, clearing_journal, cleared}
use Rattle.journal.proofs.writing.close_first.Goals as goal

pub returns-in_err-put-clause-crash : goal.returns-in_err-put-clause-crash
returns-in_err-put-clause-crash g c = λ end entries s some file left.
    clearing g.D.Disk.seen g.D.Disk.may_leave c.args.disk.now end entries s some (g.D.Disk.may_leave c.put.new.disk) c.put.ensures.crash file left

pub returns-clause-crash : goal.returns-clause-crash
returns-clause-crash g c = λ end entries s some file left.
    clearing g.D.Disk.seen g.D.Disk.may_leave c.args.disk.now end entries s some (g.D.Disk.may_leave c.put.new.disk) c.put.ensures.crash file left

pub returns-clause-cleared : goal.returns-clause-cleared
returns-clause-cleared g c = λ end entries s some.
    let is = cleared g.D.Disk.seen g.D.Disk.may_leave c.args.disk.now end entries c.put.new.disk s some c.put.ensures.others (c.in_ok-put.ensures.written (omega arith)) in
    record {
      gate = 0;
      junk = is.0;
      closed = λ i. 0;
      file = is.1;
      place = λ i. 0;
      small = tt;
      durable = c.in_ok-put.ensures.durable;
    }

pub returns-in_err-put-clause-journal : goal.returns-in_err-put-clause-journal
returns-in_err-put-clause-journal g c = λ mixes end entries s some file left.
    clearing_journal g.D.Disk.seen g.D.Disk.may_leave c.args.disk.now end entries s some (g.D.Disk.may_leave c.put.new.disk) (c.put.ensures.mixed (mixes c.args.disk.now) (omega arith)) file left

pub returns-clause-journal : goal.returns-clause-journal
returns-clause-journal g c = λ mixes end entries s some file left.
    clearing_journal g.D.Disk.seen g.D.Disk.may_leave c.args.disk.now end entries s some (g.D.Disk.may_leave c.put.new.disk) (c.put.ensures.mixed (mixes c.args.disk.now) (omega arith)) file left
