use Rattle.std.proofs.Common.{length}
use Rattle.zone_check.specs.CheckedZones.{HasWildAddress}
use Rattle.zone_check.proofs.Walks.{Walk}
use Rattle.zone_check.proofs.subject.Subject.is_below_wildcard.Given as goal

abbrev pub invariant-above : goal.invariant-above
invariant-above l = Walk (HasWildAddress l.self) l.fn.name l.here

abbrev pub decreases-above : goal.decreases-above
decreases-above l = length l.here.labels
