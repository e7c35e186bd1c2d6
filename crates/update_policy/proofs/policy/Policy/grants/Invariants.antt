-- What some rule grants is what some rule of the rest grants.
use Rattle.std.proofs.Common.{◌↔◌, length}
use Rattle.update_policy.specs.Grants.{IsGranted}
use Rattle.update_policy.proofs.policy.Policy.grants.Given as goal

abbrev pub invariant-loop-rest : goal.invariant-loop-rest
invariant-loop-rest l = IsGranted l.self l.key l.zone l.name l.kind ↔ IsGranted l.rest l.key l.zone l.name l.kind

abbrev pub decreases-loop-rest : goal.decreases-loop-rest
decreases-loop-rest l = length l.rest
