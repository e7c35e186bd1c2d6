-- Texts, cut at a byte.
use Rattle.std.specs.Prelude.{ℕ, ◌==◌, if◌then◌else◌, List, [], ◌∷◌}

-- what stands in a text before the first such byte, and behind it; all of it and nothing, where it has none
abbrev pub before_byte : ℕ → List ℕ → List ℕ
before_byte byte [] = []
before_byte byte (first ∷ text) = if first == byte then [] else first ∷ before_byte byte text

abbrev pub behind_byte : ℕ → List ℕ → List ℕ
behind_byte byte [] = []
behind_byte byte (first ∷ text) = if first == byte then text else behind_byte byte text
