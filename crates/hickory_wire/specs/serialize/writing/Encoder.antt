-- What a caller sees of an encoder: the bytes of the vector that it borrows, the limit, and which vector it is.
use Rattle.std.specs.Prelude.{◌≡◌, ℕ, List}
use Rattle.hickory_wire.specs.declared.serialize.writing.encoder.BinEncoder.{BinEncoder}

-- the bytes that were written
abbrev pub written_bytes : BinEncoder → List ℕ
written_bytes encoder = encoder.buffer.now.items

-- the limit in bytes
abbrev pub max_size : BinEncoder → ℕ
max_size encoder = encoder.max_size

-- both write to the same borrowed vector
abbrev pub IsSameVector : BinEncoder → BinEncoder → Type 0
IsSameVector old new = new.buffer.ghost_name ≡ old.buffer.ghost_name
