-- Copies of the records so far stand behind what was there.
use Rattle.std.proofs.Common.{◌≡◌, ◌++◌, take}
use Rattle.zone_differences.proofs.difference.push_copies.Given as goal

abbrev pub invariant-loop-r : goal.invariant-loop-r
invariant-loop-r l = l.all.items ≡ l.fn.all.items ++ take l.r-index l.records
