-- Those of the servers so far that are told of the zone.
use Rattle.std.proofs.Common.{◌≡◌, take}
use Rattle.served_notices.specs.Notifying.{configured}
use Rattle.served_notices.proofs.notifying.configured.Given as goal

abbrev pub invariant-loop-secondary : goal.invariant-loop-secondary
invariant-loop-secondary l = l.targets.items ≡ configured l.apex (take l.secondary-index l.secondaries)
