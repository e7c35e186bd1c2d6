-- A gate that is not open stands there already, or is written.
use Rattle.std.proofs.Common.{subst, sym, ◌∙◌, arith}
use Rattle.sqlite_disk.specs.Disk.{Torn}
use Rattle.journal.specs.Frames.{StandsFor}
use Rattle.journal.specs.JournalFile.{IsJournal}
use Rattle.journal.proofs.Entries.{closed_by_zero}
use Rattle.journal.proofs.Recovery.{split_stands, closed_there, closing, closing_journal, gate_there, closed_by}
use Rattle.journal.proofs.recovering.close.Goals as goal

pub returns-then-is_closed-clause-crash : goal.returns-then-is_closed-clause-crash
returns-then-is_closed-clause-crash g c = λ entries s seen only file left.
    subst (λ f. StandsFor f entries) (sym (only file left ∙ seen)) (split_stands c.args.bytes.now entries c.args.end s)

pub returns-then-is_closed-clause-settled : goal.returns-then-is_closed-clause-settled
returns-then-is_closed-clause-settled g c = λ entries was s seen only.
    let tested = c.is_closed.ensures.closed c.if-is_closed.true in
    let there = gate_there c.args.bytes.now entries c.args.end s tested.0 in
    record { gate = _; junk = there.0; closed = closed_there c.args.bytes.now entries c.args.end s was tested.1 tested.2; file = seen ∙ there.1; place = s.place; small = s.small; durable = only }

pub returns-in_err-put-clause-crash : goal.returns-in_err-put-clause-crash
returns-in_err-put-clause-crash g c = λ entries s seen only file left.
    let from = c.put.ensures.crash file left in
    closing c.args.bytes.now entries c.args.end file s (c.is_closed.ensures.open c.if-is_closed.false) (subst (λ f. Torn c.args.end 1 f file) (only from.0 from.1 ∙ seen) from.2)

pub returns-clause-crash : goal.returns-clause-crash
returns-clause-crash g c = λ entries s seen only file left.
    let from = c.put.ensures.crash file left in
    closing c.args.bytes.now entries c.args.end file s (c.is_closed.ensures.open c.if-is_closed.false) (subst (λ f. Torn c.args.end 1 f file) (only from.0 from.1 ∙ seen) from.2)

pub returns-clause-settled : goal.returns-clause-settled
returns-clause-settled g c = λ entries was s seen only.
    let new = g.D.Disk.seen c.put.new.disk in
    let is = closed_by c.args.bytes.now entries c.args.end (g.D.Disk.seen c.put.new.disk) s (subst (λ f. Torn c.args.end 1 f (g.D.Disk.seen c.put.new.disk)) seen c.put.ensures.others) (c.in_ok-put.ensures.written (omega arith)) in
    record {
      gate = 0;
      junk = is.0;
      closed = closed_by_zero entries;
      file = is.1;
      place = s.place;
      small = s.small;
      durable = c.in_ok-put.ensures.durable;
    }

pub returns-then-is_closed-clause-journal : goal.returns-then-is_closed-clause-journal
returns-then-is_closed-clause-journal g c = λ entries was s seen only file left. subst IsJournal (sym (only file left ∙ seen)) was

pub returns-in_err-put-clause-journal : goal.returns-in_err-put-clause-journal
returns-in_err-put-clause-journal g c = λ entries was s seen only file left.
    let from = c.put.ensures.crash file left in
    closing_journal c.args.bytes.now entries c.args.end file s (c.is_closed.ensures.open c.if-is_closed.false) was (subst (λ f. Torn c.args.end 1 f file) (only from.0 from.1 ∙ seen) from.2)

pub returns-clause-journal : goal.returns-clause-journal
returns-clause-journal g c = λ entries was s seen only file left.
    let from = c.put.ensures.crash file left in
    closing_journal c.args.bytes.now entries c.args.end file s (c.is_closed.ensures.open c.if-is_closed.false) was (subst (λ f. Torn c.args.end 1 f file) (only from.0 from.1 ∙ seen) from.2)
