-- The algorithms of transaction signatures (RFC 8945 section 6), and HMAC (RFC 2104) with the hash functions of FIPS
-- 180-4.
use Rattle.std.specs.Prelude.{ℕ, ◌-◌, ◌/◌, max, true, [], List, ◌++◌, length, map, replicate, take, codes, ◌∷◌, bit_xor, nat_lt, if◌then◌else◌}
use Rattle.sha1.specs.Sha1.{sha1}
use Rattle.sha2.specs.Sha256.{sha256}
use Rattle.sha2.specs.Sha512.{sha384, sha512}
use Rattle.wire_names.specs.rr.domain.DomainName.{DomainName}
use Rattle.tsig.specs.declared.algorithm.Algorithm.{Algorithm}
use Rattle.tsig.specs.declared.algorithm.Algorithm.TheVariants.{HmacSha1, HmacSha256, HmacSha384, HmacSha512, HmacSha256_128, HmacSha384_192, HmacSha512_256}
use Rattle.tsig.specs.declared.algorithm.HashFunction.{HashFunction}
use Rattle.tsig.specs.declared.algorithm.HashFunction.TheVariants.{Sha1, Sha256, Sha384, Sha512}

-- ---- hash functions

abbrev pub hash_of : HashFunction → List ℕ → List ℕ
hash_of Sha1 text = sha1 text
hash_of Sha256 text = sha256 text
hash_of Sha384 text = sha384 text
hash_of Sha512 text = sha512 text

-- how many bytes a block has: B of RFC 2104 section 2
abbrev pub block_len : HashFunction → ℕ
block_len Sha1 = 64
block_len Sha256 = 64
block_len Sha384 = 128
block_len Sha512 = 128

-- how many bytes the function gives: L of RFC 2104 section 2
abbrev pub hash_len : HashFunction → ℕ
hash_len Sha1 = 20
hash_len Sha256 = 32
hash_len Sha384 = 48
hash_len Sha512 = 64

-- ---- algorithms

abbrev pub hash_function : Algorithm → HashFunction
hash_function HmacSha1 = Sha1
hash_function HmacSha256 = Sha256
hash_function HmacSha256_128 = Sha256
hash_function HmacSha384 = Sha384
hash_function HmacSha384_192 = Sha384
hash_function HmacSha512 = Sha512
hash_function HmacSha512_256 = Sha512

-- how many bytes a whole MAC of the algorithm has: those of the hash, or the first half of them (RFC 8945 section 6,
-- RFC 4868 section 2.3)
abbrev pub mac_len : Algorithm → ℕ
mac_len HmacSha1 = 20
mac_len HmacSha256 = 32
mac_len HmacSha256_128 = 16
mac_len HmacSha384 = 48
mac_len HmacSha384_192 = 24
mac_len HmacSha512 = 64
mac_len HmacSha512_256 = 32

-- The least length of a MAC that was truncated: ten bytes, and half of what the hash function gives (RFC 8945 section
-- 5.2.2.1).
abbrev pub least_len : Algorithm → ℕ
least_len a = max 10 (hash_len (hash_function a) / 2)

-- its name, of one label (RFC 8945 section 6)
abbrev pub algorithm_label : Algorithm → List ℕ
algorithm_label HmacSha1 = codes "hmac-sha1"
algorithm_label HmacSha256 = codes "hmac-sha256"
algorithm_label HmacSha256_128 = codes "hmac-sha256-128"
algorithm_label HmacSha384 = codes "hmac-sha384"
algorithm_label HmacSha384_192 = codes "hmac-sha384-192"
algorithm_label HmacSha512 = codes "hmac-sha512"
algorithm_label HmacSha512_256 = codes "hmac-sha512-256"

abbrev pub algorithm_name : Algorithm → DomainName
algorithm_name a = record { labels = algorithm_label a ∷ []; is_fqdn = true }

-- ---- HMAC

-- filled up with zeros to so many bytes; what is filled here has no more
abbrev pub filled : ℕ → List ℕ → List ℕ
filled n key = take n key ++ replicate (n - length key) 0

-- the key, hashed first where it is longer than a block
abbrev pub short_key : HashFunction → List ℕ → List ℕ
short_key h key = if nat_lt (block_len h) (length key) then hash_of h key else key

-- the key as long as a block
abbrev pub block_key : HashFunction → List ℕ → List ℕ
block_key h key = filled (block_len h) (short_key h key)

abbrev pub flipped : ℕ → List ℕ → List ℕ
flipped pad key = map (λ b. bit_xor b pad) key

-- H(K XOR opad, H(K XOR ipad, text)) (RFC 2104 section 2)
unfoldable pub hmac : HashFunction → List ℕ → List ℕ → List ℕ
hmac h key text = hash_of h (flipped 0x5c (block_key h key) ++ hash_of h (flipped 0x36 (block_key h key) ++ text))

-- the MAC of an algorithm: the first bytes of the HMAC, so many as a whole MAC of it has (RFC 2104 section 5)
abbrev pub mac_of : Algorithm → List ℕ → List ℕ → List ℕ
mac_of a key text = take (mac_len a) (hmac (hash_function a) key text)
