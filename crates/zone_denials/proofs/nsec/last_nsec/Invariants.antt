use Rattle.std.proofs.Common.{◌≤◌, length, drop}
use Rattle.std.specs.List.{AllByRecursion}
use Rattle.zone_denials.specs.NsecKeys.{is_other}
use Rattle.zone_denials.proofs.nsec.last_nsec.Given as goal

abbrev pub invariant-loop-place : goal.invariant-loop-place
invariant-loop-place l = (l.place ≤ length l.keys) × AllByRecursion is_other (drop l.place l.keys)

abbrev pub decreases-loop-place : goal.decreases-loop-place
decreases-loop-place l = l.place
