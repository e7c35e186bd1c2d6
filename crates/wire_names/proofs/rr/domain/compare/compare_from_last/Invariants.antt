use Rattle.std.proofs.Common.{◌≡◌, ◌≤◌, length, take, reverse}
use Rattle.std.specs.Cmp.Lexicographic.{slice_cmp}
use Rattle.wire_names.specs.rr.domain.DomainName.{cut}
use Rattle.wire_names.specs.rr.domain.NameOrder.{label_cmp}
use Rattle.wire_names.proofs.rr.domain.compare.compare_from_last.Given as goal

abbrev pub invariant-labels : goal.invariant-labels
invariant-labels l = record {
  first : l.i ≤ length (cut l.a);
  second : l.j ≤ length (cut l.b);
  rest : slice_cmp label_cmp (reverse (take l.i (cut l.a))) (reverse (take l.j (cut l.b))) ≡ slice_cmp label_cmp (reverse (cut l.a)) (reverse (cut l.b));
}

abbrev pub decreases-labels : goal.decreases-labels
decreases-labels l = l.i
