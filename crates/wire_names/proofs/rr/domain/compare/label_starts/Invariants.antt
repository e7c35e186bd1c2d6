use Rattle.std.proofs.Common.{◌≡◌, ◌≤◌, ◌<◌, ◌-◌, ℕ, length, get_or}
use Rattle.wire_names.specs.rr.domain.DomainName.{cut, label_offset}
use Rattle.wire_names.proofs.rr.domain.compare.label_starts.Given as goal

abbrev pub invariant-loop-place : goal.invariant-loop-place
invariant-loop-place l = record {
  at : l.place ≡ label_offset (cut l.wire) l.count;
  below : l.count ≤ length (cut l.wire);
  starts : (k : ℕ) → k < l.count → get_or l.starts k 0 ≡ label_offset (cut l.wire) k;
}

abbrev pub decreases-loop-place : goal.decreases-loop-place
decreases-loop-place l = length l.wire - l.place
