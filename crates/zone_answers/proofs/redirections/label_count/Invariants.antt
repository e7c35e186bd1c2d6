-- So many labels lie before the place.
use Rattle.std.proofs.Common.{◌≡◌, ◌≤◌, ◌-◌, length}
use Rattle.wire_names.specs.rr.domain.DomainName.{label_offset}
use Rattle.zone_answers.proofs.redirections.label_count.Given as goal

abbrev pub invariant-loop-place : goal.invariant-loop-place
invariant-loop-place l = record {
  at : l.place ≡ label_offset l.name.labels l.count;
  below : l.count ≤ length l.name.labels;
  small : l.count ≤ l.place;
}

abbrev pub decreases-loop-place : goal.decreases-loop-place
decreases-loop-place l = length l.wire - l.place
