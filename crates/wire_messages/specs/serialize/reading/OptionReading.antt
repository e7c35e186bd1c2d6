-- The option that stands at the front of octets (RFC 6891 section 6.1.2).
use Rattle.std.specs.Prelude.{ℕ, List, length, take, drop, Bool, nat_lt, ◌||◌}
use Rattle.std.specs.Int.{w16, from_be_bytes}

-- its code
abbrev pub option_code : List ℕ → ℕ
option_code octets = from_be_bytes w16 (take 2 octets)

-- the length of its data
abbrev pub option_len : List ℕ → ℕ
option_len octets = from_be_bytes w16 (take 2 (drop 2 octets))

-- whether the octets end before it does
abbrev pub ends_early : List ℕ → Bool
ends_early octets = nat_lt (length octets) 4 || nat_lt (length (drop 4 octets)) (option_len octets)
