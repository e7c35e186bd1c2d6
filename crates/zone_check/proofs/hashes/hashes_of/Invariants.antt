use Rattle.std.proofs.Common.{◌≤◌, length, drop}
use Rattle.zone_check.specs.Indexes.{HasHashes}
use Rattle.zone_check.proofs.hashes.hashes_of.Given as goal

abbrev pub invariant-loop-place : goal.invariant-loop-place
invariant-loop-place l = record { within : l.place ≤ length l.records; found : HasHashes l.origin l.records (drop l.place l.records) l.hashes }

abbrev pub decreases-loop-place : goal.decreases-loop-place
decreases-loop-place l = l.place
