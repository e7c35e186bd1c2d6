use Rattle.std.proofs.Common.{◌≡◌, length}
use Rattle.zone_check.specs.CheckedZones.{IsDnameOwner}
use Rattle.zone_check.proofs.Walks.{Walk}
use Rattle.zone_check.proofs.subject.Subject.is_below_dname.Given as goal

abbrev pub invariant-above : goal.invariant-above
invariant-above l = record { typed : l.key.record_type ≡ 39; walk : Walk (IsDnameOwner l.self) l.fn.name l.key.name }

abbrev pub decreases-above : goal.decreases-above
decreases-above l = length l.key.name.labels
