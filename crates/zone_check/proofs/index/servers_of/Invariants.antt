use Rattle.std.proofs.Common.{◌≤◌, length, drop}
use Rattle.zone_check.specs.Indexes.{HasServers}
use Rattle.zone_check.proofs.index.servers_of.Given as goal

abbrev pub invariant-loop-place : goal.invariant-loop-place
invariant-loop-place l = record { within : l.place ≤ length l.records; found : HasServers l.records (drop l.place l.records) l.servers }

abbrev pub decreases-loop-place : goal.decreases-loop-place
decreases-loop-place l = l.place
