-- The order of serials (RFC 1982 section 3.2).
use Rattle.std.specs.Prelude.{◌<◌, ◌-◌, ◌^◌, ◌⊎◌, ℕ}

-- The serial is above the other.
abbrev pub IsAbove : ℕ → ℕ → Type 0
IsAbove serial other = (other < serial × serial - other < 2 ^ 31) ⊎ (serial < other × 2 ^ 31 < other - serial)
