use Rattle.std.proofs.Common.{◌≡◌, ◌+◌, ◌≤◌, ◌*◌, length, drop}
use Rattle.wire_names.specs.representation.OrderKey.{escaped}
use Rattle.wire_names.proofs.rr.domain.order_key.escaped_len.Given as goal

abbrev pub invariant-loop-left : goal.invariant-loop-left
invariant-loop-left l = record {
  behind : l.left ≤ length l.label;
  counted : l.count ≡ l.left + length (escaped (drop l.left l.label));
  few : l.count + l.left ≤ 2 * length l.label;
}

abbrev pub decreases-loop-left : goal.decreases-loop-left
decreases-loop-left l = l.left
