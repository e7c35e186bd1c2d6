-- Nothing changes.
use Rattle.std.proofs.Common.{◌≡◌}
use Rattle.served_zones.proofs.operations.all_done.Given as goal

abbrev pub invariant-loop-place : goal.invariant-loop-place
invariant-loop-place g l = l.zones ≡ l.fn.zones
