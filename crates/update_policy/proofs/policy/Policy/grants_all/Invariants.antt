-- All records are granted where those of the rest are.
use Rattle.std.proofs.Common.{◌↔◌, length}
use Rattle.update_policy.specs.Grants.{AreGranted}
use Rattle.update_policy.proofs.policy.Policy.grants_all.Given as goal

abbrev pub invariant-loop-rest : goal.invariant-loop-rest
invariant-loop-rest l = AreGranted l.self l.key l.zone l.records ↔ AreGranted l.self l.key l.zone l.rest

abbrev pub decreases-loop-rest : goal.decreases-loop-rest
decreases-loop-rest l = length l.rest
