-- The targets so far, each once.
use Rattle.std.proofs.Common.{◌≡◌, take}
use Rattle.notices.specs.Schedule.{each_once}
use Rattle.notices.proofs.notices.each_once.Given as goal

abbrev pub invariant-loop-target : goal.invariant-loop-target
invariant-loop-target l = l.told.items ≡ each_once (take l.target-index l.targets)
