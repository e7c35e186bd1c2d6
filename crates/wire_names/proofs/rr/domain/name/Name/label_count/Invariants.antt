use Rattle.std.proofs.Common.{◌≡◌, ◌≤◌, ◌-◌, length}
use Rattle.wire_names.specs.rr.domain.DomainName.{label_offset}
use Rattle.wire_names.proofs.rr.domain.name.Name.label_count.Given as goal

abbrev pub invariant-loop-place : goal.invariant-loop-place
invariant-loop-place l = record {
  at : l.place ≡ label_offset l.self.labels l.count;
  below : l.count ≤ length l.self.labels;
  small : l.count ≤ l.place;
}

abbrev pub decreases-loop-place : goal.decreases-loop-place
decreases-loop-place l = length l.wire - l.place
