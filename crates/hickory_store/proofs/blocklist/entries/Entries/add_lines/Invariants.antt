use Rattle.std.proofs.Common.{map}
use Rattle.hickory_store.specs.blocklist.Entries.{AddsLines}
use Rattle.hickory_store.proofs.blocklist.entries.Entries.add_lines.Given as goal

abbrev pub invariant-loop-line : goal.invariant-loop-line
invariant-loop-line l = record {
  can_next : (goal.iterator-loop-line).can_next l.line-iterator;
  finite : (goal.iterator-loop-line).is_finite l.line-iterator;
  added : AddsLines l.initial.self (map (λ x. x.now) l.yielded) l.self;
}
