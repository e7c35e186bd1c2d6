-- A notice to each of the targets so far.
use Rattle.std.proofs.Common.{◌≡◌, map, take}
use Rattle.notices.specs.Schedule.{first_notice}
use Rattle.notices.proofs.notices.notices_to.Given as goal

abbrev pub invariant-loop-target : goal.invariant-loop-target
invariant-loop-target l = l.made.items ≡ map (first_notice l.zone l.ttl l.soa l.now) (take l.target-index l.targets)
