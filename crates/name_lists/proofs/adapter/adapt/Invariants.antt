use Rattle.std.proofs.Common.{◌+◌, ◌≤◌, length}
use Rattle.std.specs.String.{string_bytes}
use Rattle.name_lists.specs.Counts.{lines_in}
use Rattle.name_lists.specs.Words.{lines_of, without_mark}
use Rattle.name_lists.proofs.Adapting.{Adapting}
use Rattle.name_lists.proofs.adapter.adapt.Given as goal

abbrev pub invariant-loop-line : goal.invariant-loop-line
invariant-loop-line l = record {
  so_far : Adapting (lines_of (without_mark l.fn.list)) (lines_of l.rest) (string_bytes l.text) l.report;
  room : lines_in l.report + length l.rest ≤ length l.fn.list;
}

abbrev pub decreases-loop-line : goal.decreases-loop-line
decreases-loop-line l = length l.rest
