-- Message authentication codes by SHA-256 (RFC 2104 section 2), of keys that zeros fill to a block of 64 octets.
use Rattle.std.specs.Prelude.{ℕ, zero, suc, List, ◌++◌, map, bit_or, bit_xor, slice_index}
use Rattle.sha2.specs.Sha256.{sha256}

-- the octets of a block, each xored with one octet
abbrev pub padded : ℕ → List ℕ → List ℕ
padded octet block = map (λ key_octet. bit_xor key_octet octet) block

-- the code of a text
abbrev pub hmac : List ℕ → List ℕ → List ℕ
hmac block text = sha256 (padded 0x5c block ++ sha256 (padded 0x36 block ++ text))

-- the bits in which any of the first n octets of two lists differ
abbrev pub differences : List ℕ → List ℕ → ℕ → ℕ
differences own other zero = 0
differences own other (suc n) = bit_or (differences own other n) (bit_xor (slice_index own n) (slice_index other n))
