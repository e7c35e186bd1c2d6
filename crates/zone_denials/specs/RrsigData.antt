-- The data of an RRSIG record as octets (RFC 4034 section 3.1).
use Rattle.std.specs.Prelude.{◌+◌, ◌*◌, ◌∷◌, ℕ, List, Option, Some, None}

-- the type of the RRset that is covered, the first two octets
abbrev pub covered_in : List ℕ → Option ℕ
covered_in (high ∷ low ∷ rest) = Some (high * 256 + low)
covered_in other = None

-- the time at which the signature ends: after the type, the algorithm, the number of labels and the original TTL
abbrev pub expiration_in : List ℕ → Option ℕ
expiration_in (c0 ∷ c1 ∷ algorithm ∷ labels ∷ t0 ∷ t1 ∷ t2 ∷ t3 ∷ a ∷ b ∷ c ∷ d ∷ rest) = Some ((a * 256 + b) * 65536 + (c * 256 + d))
expiration_in other = None
