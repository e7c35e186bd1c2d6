use Rattle.std.proofs.Common.{◌≤◌, length, drop}
use Rattle.zone_check.specs.Indexes.{HasNames}
use Rattle.zone_denials.specs.Nsec3Data.{hashing_by}
use Rattle.zone_check.proofs.hashes.names_by.Given as goal

abbrev pub invariant-loop-place : goal.invariant-loop-place
invariant-loop-place l = record { within : l.place ≤ length l.zone.records.now; found : HasNames l.zone.origin.now l.zone.records.now (hashing_by l.by) (drop l.place l.zone.records.now) l.names }

abbrev pub decreases-loop-place : goal.decreases-loop-place
decreases-loop-place l = l.place
