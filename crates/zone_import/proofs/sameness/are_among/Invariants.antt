-- The records so far are among the others.
use Rattle.std.proofs.Common.{length}
use Rattle.std.specs.List.{AllByRecursion}
use Rattle.zone_import.proofs.SameLists.{Has}
use Rattle.zone_import.proofs.sameness.are_among.Given as goal

abbrev pub invariant-loop-rest : goal.invariant-loop-rest
invariant-loop-rest l = AllByRecursion (Has l.fn.others) l.rest → AllByRecursion (Has l.fn.others) l.fn.records

abbrev pub decreases-loop-rest : goal.decreases-loop-rest
decreases-loop-rest l = length l.rest
