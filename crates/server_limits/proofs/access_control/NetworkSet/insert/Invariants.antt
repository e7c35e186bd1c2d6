use Rattle.std.proofs.Common.{take}
use Rattle.server_limits.specs.Access.{Inserts}
use Rattle.server_limits.proofs.access_control.NetworkSet.insert.Given as goal

abbrev pub invariant-loop-network : goal.invariant-loop-network
invariant-loop-network l = Inserts l.initial.self (take l.network-index l.networks) l.self
