-- Labels stand before the place, unless it is behind the end.
use Rattle.std.proofs.Common.{◌≤◌, length, take}
use Rattle.server_limits.specs.Truncating.{AreLabels}
use Rattle.server_limits.proofs.truncating.question_len.Given as goal

abbrev pub invariant-loop : goal.invariant-loop
invariant-loop l = l.at ≤ length l.bytes → AreLabels (take l.at l.bytes)
