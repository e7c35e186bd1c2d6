-- The names so far are those of the arguments so far.
use Rattle.std.proofs.Common.{map, take}
use Rattle.std.specs.List.{AllZip}
use Rattle.served_keys.specs.ServedKeys.{IsKeyNamed}
use Rattle.zone_serve.proofs.keys.transfer_keys_of.Given as goal

abbrev pub invariant-loop-place : goal.invariant-loop-place
invariant-loop-place l = AllZip (IsKeyNamed l.keys) (map (λ it. it.0.now) (take l.place l.arguments)) l.names.items
