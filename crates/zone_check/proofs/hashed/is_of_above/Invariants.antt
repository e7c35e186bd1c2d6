use Rattle.std.proofs.Common.{length}
use Rattle.zone_check.specs.Findings.{IsFoundOfEmpty}
use Rattle.zone_check.specs.HashedZones.{IsEmptyAnd}
use Rattle.zone_denials.specs.Nsec3Data.{hashing_by}
use Rattle.zone_check.proofs.Walks.{Walk}
use Rattle.zone_check.proofs.hashed.is_of_above.Given as goal

abbrev pub invariant-above : goal.invariant-above
invariant-above l = Walk (IsEmptyAnd l.zone (IsFoundOfEmpty l.kind l.zone (hashing_by l.by) l.owner)) l.owner l.name

abbrev pub decreases-above : goal.decreases-above
decreases-above l = length l.name.labels
