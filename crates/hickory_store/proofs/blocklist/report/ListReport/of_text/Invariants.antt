use Rattle.std.proofs.Common.{map, List}
use Rattle.std.specs.List.{AllZip}
use Rattle.hickory_store.specs.blocklist.ListReports.{IsLine, IsReport}
use Rattle.hickory_store.specs.declared.blocklist.lines.ListLine.{ListLine}
use Rattle.hickory_store.proofs.blocklist.report.ListReport.of_text.Given as goal

-- the report of the lines so far
abbrev pub invariant-loop-line : goal.invariant-loop-line
invariant-loop-line l = record {
  can_next : (goal.iterator-loop-line).can_next l.line-iterator;
  finite : (goal.iterator-loop-line).is_finite l.line-iterator;
  said : (said : List ListLine) × AllZip IsLine (map (λ x. x.now) l.yielded) said × IsReport said l.report;
}
