-- With what the rest lists, the types are those of the whole bit map.
use Rattle.std.proofs.Common.{◌≡◌, ◌++◌, drop}
use Rattle.std.specs.Option.{option_map}
use Rattle.zone_denials.specs.TypeBits.{IsPart, types_from, types_in}
use Rattle.zone_denials.proofs.type_bits.types_of.Given as goal

abbrev pub invariant-loop-octet : goal.invariant-loop-octet
invariant-loop-octet l = IsPart l.part × (option_map (λ types. l.types.items ++ types) (types_from l.part (drop l.octet-index l.octets)) ≡ types_in l.octets)
