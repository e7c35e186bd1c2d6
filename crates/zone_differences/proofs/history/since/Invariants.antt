-- The last of those so far that leads from there, unless one behind does.
use Rattle.std.proofs.Common.{◌≡◌, length}
use Rattle.zone_differences.specs.Histories.{or_else, since}
use Rattle.zone_differences.proofs.history.since.Given as goal

abbrev pub invariant-loop-rest : goal.invariant-loop-rest
invariant-loop-rest l = since l.serial l.differences ≡ or_else (since l.serial l.rest) l.found

abbrev pub decreases-loop-rest : goal.decreases-loop-rest
decreases-loop-rest l = length l.rest
