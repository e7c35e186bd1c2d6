-- How many bytes a hash, an HMAC and a MAC have.
use Rattle.std.proofs.Common.{◌≡◌, ℕ, zero, suc, ◌*◌, List, ◌++◌, length, length-append, refl, arith}
use Rattle.std.proofs.lemmas.List.{length-take}
use Rattle.std.specs.Int.{w32, w64, to_be_bytes}
use Rattle.std.specs.Prelude.{◌/◌, slice_index}
use Rattle.sha1.specs.Sha1.{sha1, digest_bytes as digest_bytes_1, hash_after, padded_message}
use Rattle.sha2.specs.Sha256.{sha256, digest_bytes, final_hash, initial_hash_256}
use Rattle.sha2.specs.Sha512.{sha384, sha512, final_hash as final_hash_512, initial_hash_384, initial_hash_512}
use Rattle.sha2.specs.Sha512.{digest_bytes as digest_bytes_512}
use Rattle.tsig.specs.Hmac.{block_key, flipped, hash_len, hash_of, hmac, mac_len, mac_of}
use Rattle.tsig.specs.declared.algorithm.Algorithm.{Algorithm}
use Rattle.tsig.specs.declared.algorithm.Algorithm.TheVariants.{HmacSha1, HmacSha256, HmacSha384, HmacSha512, HmacSha256_128, HmacSha384_192, HmacSha512_256}
use Rattle.tsig.specs.declared.algorithm.HashFunction.{HashFunction}
use Rattle.tsig.specs.declared.algorithm.HashFunction.TheVariants.{Sha1, Sha256, Sha384, Sha512}

words_1 : (h : List ℕ) (n : ℕ) → length (digest_bytes_1 h n) ≡ 4 * n
unfolding digest_bytes_1
words_1 h zero = refl
words_1 h (suc n) = let e = words_1 h n in let four : length (to_be_bytes w32 (slice_index h n)) ≡ 4 = refl in omega (arith, length-append (digest_bytes_1 h n) (to_be_bytes w32 (slice_index h n)))

words_32 : (h : List ℕ) (n : ℕ) → length (digest_bytes h n) ≡ 4 * n
unfolding digest_bytes
words_32 h zero = refl
words_32 h (suc n) = let e = words_32 h n in let four : length (to_be_bytes w32 (slice_index h n)) ≡ 4 = refl in omega (arith, length-append (digest_bytes h n) (to_be_bytes w32 (slice_index h n)))

words_64 : (h : List ℕ) (n : ℕ) → length (digest_bytes_512 h n) ≡ 8 * n
unfolding digest_bytes_512
words_64 h zero = refl
words_64 h (suc n) = let e = words_64 h n in let eight : length (to_be_bytes w64 (slice_index h n)) ≡ 8 = refl in omega (arith, length-append (digest_bytes_512 h n) (to_be_bytes w64 (slice_index h n)))

hash_of-len : (h : HashFunction) (text : List ℕ) → length (hash_of h text) ≡ hash_len h
unfolding sha1 sha256 sha384 sha512
hash_of-len Sha1 text = words_1 (hash_after (padded_message text) (length (padded_message text) / 64)) 5
hash_of-len Sha256 text = words_32 (final_hash initial_hash_256 text) 8
hash_of-len Sha384 text =
    let whole = words_64 (final_hash_512 initial_hash_384 text) 8 in
    omega (arith, length-take 48 (digest_bytes_512 (final_hash_512 initial_hash_384 text) 8))
hash_of-len Sha512 text = words_64 (final_hash_512 initial_hash_512 text) 8

hmac-len : (h : HashFunction) (key text : List ℕ) → length (hmac h key text) ≡ hash_len h
unfolding hmac
hmac-len h key text = hash_of-len h (flipped 0x5c (block_key h key) ++ hash_of h (flipped 0x36 (block_key h key) ++ text))

-- a MAC has as many bytes as a whole one of its algorithm
pub mac_of-len : (a : Algorithm) (key text : List ℕ) → length (mac_of a key text) ≡ mac_len a
mac_of-len HmacSha1 key text = let e = hmac-len Sha1 key text in omega (arith, length-take 20 (hmac Sha1 key text))
mac_of-len HmacSha256 key text = let e = hmac-len Sha256 key text in omega (arith, length-take 32 (hmac Sha256 key text))
mac_of-len HmacSha256_128 key text = let e = hmac-len Sha256 key text in omega (arith, length-take 16 (hmac Sha256 key text))
mac_of-len HmacSha384 key text = let e = hmac-len Sha384 key text in omega (arith, length-take 48 (hmac Sha384 key text))
mac_of-len HmacSha384_192 key text = let e = hmac-len Sha384 key text in omega (arith, length-take 24 (hmac Sha384 key text))
mac_of-len HmacSha512 key text = let e = hmac-len Sha512 key text in omega (arith, length-take 64 (hmac Sha512 key text))
mac_of-len HmacSha512_256 key text = let e = hmac-len Sha512 key text in omega (arith, length-take 32 (hmac Sha512 key text))
