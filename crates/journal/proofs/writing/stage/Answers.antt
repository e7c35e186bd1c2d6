-- Entries are put behind the closed gate.
use Rattle.journal.proofs.Steps.{staging, staging_journal, staged, behind_some}
use Rattle.journal.proofs.writing.stage.Goals as goal

pub returns-in_err-put-clause-crash : goal.returns-in_err-put-clause-crash
returns-in_err-put-clause-crash g c = λ entries s file left.
    staging g.D.Disk.seen g.D.Disk.may_leave c.args.disk.now c.args.end entries s _ (g.D.Disk.may_leave c.put.new.disk) c.put.ensures.crash file left

pub returns-clause-crash : goal.returns-clause-crash
returns-clause-crash g c = λ entries s file left.
    staging g.D.Disk.seen g.D.Disk.may_leave c.args.disk.now c.args.end entries s _ (g.D.Disk.may_leave c.put.new.disk) c.put.ensures.crash file left

pub returns-clause-staged : goal.returns-clause-staged
returns-clause-staged g c = λ entries first others s are.
    let is = staged g.D.Disk.seen g.D.Disk.may_leave c.args.disk.now c.args.end entries s first others c.args.bytes.now c.put.new.disk are c.put.ensures.others
    (c.in_ok-put.ensures.written (behind_some first others c.args.bytes.now are)) in
    record {
      gate = s.gate;
      closed = s.closed;
      junk = is.0;
      file = is.1;
      place = s.place;
      small = s.small;
      durable = c.in_ok-put.ensures.durable;
    }

pub returns-in_err-put-clause-journal : goal.returns-in_err-put-clause-journal
returns-in_err-put-clause-journal g c = λ entries s file left.
    staging_journal g.D.Disk.seen g.D.Disk.may_leave c.args.disk.now c.args.end entries s _ (g.D.Disk.may_leave c.put.new.disk) c.put.ensures.crash file left

pub returns-clause-journal : goal.returns-clause-journal
returns-clause-journal g c = λ entries s file left.
    staging_journal g.D.Disk.seen g.D.Disk.may_leave c.args.disk.now c.args.end entries s _ (g.D.Disk.may_leave c.put.new.disk) c.put.ensures.crash file left
