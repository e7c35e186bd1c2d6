-- The bytes that a name is kept as.
use Rattle.std.specs.Prelude.{ℕ, List}
use Rattle.wire_names.specs.declared.values.wire.Wire.{Wire}
use Rattle.wire_names.specs.declared.values.wire.Wire.TheVariants.{Short, Long}

-- the bytes, wherever they lie
abbrev pub wire_bytes : Wire → List ℕ
wire_bytes (Short bytes) = bytes
wire_bytes (Long bytes) = bytes.items
