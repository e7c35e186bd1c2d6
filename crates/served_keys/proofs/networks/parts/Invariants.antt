use Rattle.std.proofs.Common.{◌≡◌, take}
use Rattle.std.specs.List.{flat_map}
use Rattle.served_keys.specs.ServedKeys.{parts_of}
use Rattle.served_keys.proofs.networks.parts.Given as goal

-- the parts of the networks so far
abbrev pub invariant-loop-network : goal.invariant-loop-network
invariant-loop-network l = l.made.items ≡ flat_map parts_of (take l.network-index l.networks)
