-- Serials of SOA records, which have 32 bits, as they are compared (RFC 1982 section 3.2).
use Rattle.std.specs.Prelude.{ℕ, ◌-◌, ◌^◌, ◌&&◌, ◌||◌, Bool, nat_lt}

-- a is greater than b
abbrev pub is_greater : ℕ → ℕ → Bool
is_greater a b = (nat_lt a b && nat_lt (2 ^ 31) (b - a)) || (nat_lt b a && nat_lt (a - b) (2 ^ 31))
