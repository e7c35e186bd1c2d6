use Rattle.std.proofs.Common.{◌≤◌, length, drop}
use Rattle.zone_check.specs.Indexes.{HasSignatures}
use Rattle.zone_check.proofs.index.signatures_of.Given as goal

abbrev pub invariant-loop-place : goal.invariant-loop-place
invariant-loop-place l = record { within : l.place ≤ length l.records; found : HasSignatures l.records (drop l.place l.records) l.signatures }

abbrev pub decreases-loop-place : goal.decreases-loop-place
decreases-loop-place l = l.place
