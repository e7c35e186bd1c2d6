-- What a server that owns a socket adds to the library.
use Rattle.std.specs.Prelude.{◌≤◌, ℕ, List, get_or}

-- QR is set, the highest bit of the third octet of a message (RFC 1035 section 4.1.1).
abbrev pub IsResponse : List ℕ → Type 0
IsResponse bytes = 128 ≤ get_or bytes 2 0
