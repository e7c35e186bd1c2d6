use Rattle.std.proofs.Common.{◌≡◌, ◌++◌}
use Rattle.zone_denials.specs.TypeBits.{listed_in}
use Rattle.zone_denials.proofs.type_bits.push_types.Given as goal

abbrev pub invariant-loop-place : goal.invariant-loop-place
invariant-loop-place l = l.types.items ≡ l.fn.types.items ++ listed_in l.first l.octet l.place
