-- What was put and what the differences to come take are what all take.
use Rattle.std.proofs.Common.{◌≡◌, ◌++◌, drop}
use Rattle.std.specs.List.{flat_map}
use Rattle.zone_differences.specs.Sequences.{sequence}
use Rattle.zone_differences.proofs.difference.push_sequences.Given as goal

abbrev pub invariant-loop-difference : goal.invariant-loop-difference
invariant-loop-difference l = l.all.items ++ flat_map sequence (drop l.difference-index l.differences) ≡ l.fn.all.items ++ flat_map sequence l.differences
