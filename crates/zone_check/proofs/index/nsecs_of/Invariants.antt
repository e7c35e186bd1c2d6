use Rattle.std.proofs.Common.{◌≤◌, length, drop}
use Rattle.zone_check.specs.Indexes.{HasNsecs}
use Rattle.zone_check.proofs.index.nsecs_of.Given as goal

abbrev pub invariant-loop-place : goal.invariant-loop-place
invariant-loop-place l = record { within : l.place ≤ length l.records; found : HasNsecs (drop l.place l.records) l.nsecs }

abbrev pub decreases-loop-place : goal.decreases-loop-place
decreases-loop-place l = l.place
