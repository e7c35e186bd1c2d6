use Rattle.std.proofs.Common.{◌≤◌, length, drop}
use Rattle.zone_check.specs.Indexes.{HasOwners}
use Rattle.zone_check.proofs.hashes.owners_of.Given as goal

abbrev pub invariant-loop-place : goal.invariant-loop-place
invariant-loop-place l = record { within : l.place ≤ length l.records; found : HasOwners (drop l.place l.records) l.owners }

abbrev pub decreases-loop-place : goal.decreases-loop-place
decreases-loop-place l = l.place
