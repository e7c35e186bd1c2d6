use Rattle.std.proofs.Common.{◌≡◌, ◌+◌, ◌<◌, ◌≤◌, ◌∷◌, ◌++◌, length, drop}
use Rattle.wire_names.specs.representation.OrderKey.{escaped}
use Rattle.wire_names.proofs.rr.domain.order_key.put_plain.Given as goal

abbrev pub invariant-loop-end : goal.invariant-loop-end
invariant-loop-end l = record {
  some : 0 < l.left;
  behind : l.left ≤ length l.label;
  at : l.start + length l.label + 1 ≡ l.end + l.left;
  put : drop l.start l.room ≡ escaped (drop l.left l.label) ++ 0 ∷ drop l.end l.fn.room;
}

abbrev pub decreases-loop-end : goal.decreases-loop-end
decreases-loop-end l = l.left
