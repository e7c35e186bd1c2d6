use Rattle.std.proofs.Common.{◌≤◌, ◌-◌, length}
use Rattle.wire_names.proofs.lemmas.rr.domain.Ends.{Left}
use Rattle.wire_names.proofs.rr.domain.name.Name.zone_of.Given as goal

abbrev pub invariant-loop-place : goal.invariant-loop-place
invariant-loop-place l = record {
  left : Left l.self.labels l.other.labels l.all l.place;
  below : l.place ≤ length l.all;
}

abbrev pub decreases-loop-place : goal.decreases-loop-place
decreases-loop-place l = length l.all - l.place
