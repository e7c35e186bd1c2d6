-- The rules so far are those of the grants so far.
use Rattle.std.proofs.Common.{◌≡◌, take}
use Rattle.served_zones.specs.Grants.{rules_for}
use Rattle.served_zones.proofs.grants.policy_of.Given as goal

abbrev pub invariant-loop-grant : goal.invariant-loop-grant
invariant-loop-grant l = l.policy ≡ rules_for (take l.grant-index l.grants) l.apex
