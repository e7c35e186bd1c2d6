use Rattle.std.proofs.Common.{◌≡◌, ◌+◌, ◌-◌, ◌≤◌, false, length, drop}
use Rattle.wire_names.proofs.lemmas.rr.domain.SharedEnds.{unescaped_len}
use Rattle.wire_names.proofs.rr.domain.order_key.wire_len.Given as goal

abbrev pub invariant-loop-place : goal.invariant-loop-place
invariant-loop-place l = record {
  few : l.len ≤ l.place;
  passed : l.len + unescaped_len false (drop l.place l.key) ≡ unescaped_len false l.key;
}

abbrev pub decreases-loop-place : goal.decreases-loop-place
decreases-loop-place l = length l.key - l.place
