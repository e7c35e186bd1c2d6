-- The elements of a vector of bytes.
use Rattle.std.proofs.Common.{inl, inr, ℕ, ◌<◌, List, length, get_or, arith}
use Rattle.std.proofs.lemmas.Bool.{cases_lt}
use Rattle.std.proofs.lemmas.List.{get_or_past}
use Rattle.wire_names.specs.serialize.layout.Bytes.{AreBytes}

-- the elements of a vector of bytes are bytes
pub are_bytes : (bytes : List ℕ) → ((i d : ℕ) → i < length bytes → get_or bytes i d < 256) → AreBytes bytes
are_bytes bytes h k = elim (cases_lt k (length bytes)) [
  | inl lt ↦ h k 0 lt
  | inr le ↦ rw (get_or_past bytes k 0 le) (omega arith)
]
