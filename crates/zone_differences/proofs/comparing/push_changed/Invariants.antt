-- What was put are those of the front that have changed.
use Rattle.std.proofs.Common.{◌≡◌, ◌++◌, filter, take}
use Rattle.zone_differences.specs.Differences.{is_changed}
use Rattle.zone_differences.proofs.comparing.push_changed.Given as goal

abbrev pub invariant-loop-r : goal.invariant-loop-r
invariant-loop-r l = l.all.items ≡ l.fn.all.items ++ filter (is_changed l.origin l.old l.new) (take l.r-index l.records)
