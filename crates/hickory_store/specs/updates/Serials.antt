-- How serials of SOA records are incremented, which have 32 bits (RFC 1982 section 3.1).
use Rattle.std.specs.Prelude.{ℕ, ◌+◌, ◌%◌, ◌^◌}

-- one is added
abbrev pub next_serial : ℕ → ℕ
next_serial n = (n + 1) % 2 ^ 32
