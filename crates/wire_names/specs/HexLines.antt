-- Lines of hex digits.
use Rattle.std.specs.Prelude.{ℕ, List, [], ◌∷◌, ◌++◌}
use Rattle.std.specs.List.{flat_map}
use Rattle.hex.specs.Hex.{encode_lower}

-- a line of lower-case hex digits, with its newline
abbrev pub hex_line : List ℕ → List ℕ
hex_line bytes = encode_lower bytes ++ 10 ∷ []

-- a line for each of some texts
abbrev pub hex_lines : List (List ℕ) → List ℕ
hex_lines texts = flat_map hex_line texts
