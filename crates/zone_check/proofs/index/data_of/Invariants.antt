use Rattle.std.proofs.Common.{◌≤◌, length, drop}
use Rattle.zone_check.specs.Indexes.{HasData}
use Rattle.zone_check.proofs.index.data_of.Given as goal

abbrev pub invariant-loop-place : goal.invariant-loop-place
invariant-loop-place l = record { within : l.place ≤ length l.records; found : HasData l.records (drop l.place l.records) l.others }

abbrev pub decreases-loop-place : goal.decreases-loop-place
decreases-loop-place l = l.place
