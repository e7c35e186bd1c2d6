-- The records so far are.
use Rattle.std.proofs.Common.{◌≡◌, take, true}
use Rattle.std.specs.List.{All}
use Rattle.zone_answers.specs.Additionals.{is_hostless}
use Rattle.zone_answers.proofs.additionals.are_hostless.Given as goal

abbrev pub invariant-loop-q : goal.invariant-loop-q
invariant-loop-q l = All (λ q. is_hostless q.rdata ≡ true) (take l.q-index l.records)
