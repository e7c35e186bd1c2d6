-- There is no mark at the places so far.
use Rattle.std.proofs.Common.{take}
use Rattle.std.specs.List.{All}
use Rattle.zone_answers.specs.representation.TopCuts.{IsClearHost}
use Rattle.zone_answers.proofs.index.are_clear_hosts.Given as goal

abbrev pub invariant-loop-place : goal.invariant-loop-place
invariant-loop-place l = All (IsClearHost l.marks) (take l.place-index l.places)
