-- The first address of a network: from bits to an address and back.
use Rattle.std.proofs.Common.{◌≡◌, ℕ, zero, suc, ◌+◌, ◌-◌, ◌*◌, ◌/◌, ◌%◌, ◌^◌, ◌<◌, ◌≤◌, List, [], ◌∷◌, refl, sym, ap, ◌∙◌, subst, arith, Option, Some, None}
use Rattle.std.proofs.Math.Nat.{div-div-eq-div-mul, div-lt_iff_lt-mul}
use Rattle.std.proofs.lemmas.Nat.{shl-shr, pow_pos, pow-add, from_be_bytes-to_be_bytes_4}
use Rattle.std.proofs.Math.Pow.{shl_lt, shl_exact}
use Rattle.std.specs.Option.{SomeIff, unwrap_or}
use Rattle.server_limits.specs.declared.access_control.Family.{Family}
use Rattle.server_limits.specs.declared.access_control.Family.TheVariants.{Ipv4, Ipv6}
use Rattle.server_limits.specs.Access.{Network, width, network_of, first_address}
use Rattle.std.specs.Int.{w32, w128, from_be_bytes, to_be_bytes}
use Rattle.std.specs.Net.Addr.{ipv4_bits, ipv6_bits, IsIpv4OfBits, IsIpv6OfBits, octets_of, segments_of}
use Rattle.std.specs.declared.net.ipv4_addr.Ipv4Addr.{Ipv4Addr}
use Rattle.std.specs.declared.net.ipv6_addr.Ipv6Addr.{Ipv6Addr}

byte_and_rest : (n p : ℕ) → n / p ≡ n / p % 256 + n / (p * 256) * 256
byte_and_rest n p = omega (arith, div-div-eq-div-mul n p 256)

joined : (a b c d e f g h i j k l m o p r n q1 q2 q3 q4 q5 q6 q7 q8 q9 q10 q11 q12 q13 q14 q15 : ℕ) → n ≡ a + q1 * 256 → q1 ≡ b + q2 * 256 → q2 ≡ c + q3 * 256 → q3 ≡ d + q4 * 256 → q4 ≡ e + q5 * 256 → q5 ≡ f + q6 * 256 → q6 ≡ g + q7 * 256 → q7 ≡ h + q8 * 256 → q8 ≡ i + q9 * 256 → q9 ≡ j + q10 * 256 → q10 ≡ k + q11 * 256 → q11 ≡ l + q12 * 256 → q12 ≡ m + q13 * 256 → q13 ≡ o + q14 * 256 → q14 ≡ p + q15 * 256 → q15 ≡ r
    → r * 1329227995784915872903807060280344576 + p * 5192296858534827628530496329220096 + o * 20282409603651670423947251286016 + m * 79228162514264337593543950336 + l * 309485009821345068724781056 + k * 1208925819614629174706176 + j * 4722366482869645213696 + i * 18446744073709551616 + h * 72057594037927936 + g * 281474976710656 + f * 1099511627776 + e * 4294967296 + d * 16777216 + c * 65536 + b * 256 + a ≡ n
joined a b c d e f g h i j k l m o p r n q1 q2 q3 q4 q5 q6 q7 q8 q9 q10 q11 q12 q13 q14 q15 at_0 at_1 at_2 at_3 at_4 at_5 at_6 at_7 at_8 at_9 at_10 at_11 at_12 at_13 at_14 at_15 = omega arith

-- the second octet of each segment has eight bits
IsPaired : List ℕ → Type 0
IsPaired [] = Unit {0}
IsPaired (a ∷ []) = ⊥
IsPaired (a ∷ b ∷ octets) = (b < 256) × IsPaired octets

octets_of-segments_of : (octets : List ℕ) → IsPaired octets → octets_of (segments_of octets) ≡ octets
unfolding IsPaired
octets_of-segments_of [] h = refl
octets_of-segments_of (a ∷ []) h = absurd h
octets_of-segments_of (a ∷ b ∷ octets) h =
    let high : (a * 256 + b) / 256 ≡ a = omega (arith, h.0) in
    let low : (a * 256 + b) % 256 ≡ b = omega (arith, h.0) in
    rw (high, low, octets_of-segments_of octets h.1) refl

from_be_bytes-to_be_bytes : (n : ℕ) → n < 2 ^ 128 → from_be_bytes w128 (to_be_bytes w128 n) ≡ n
from_be_bytes-to_be_bytes n fits =
    let low : n ≡ n % 256 + n / 256 * 256 = omega arith in
    let high : n / 1329227995784915872903807060280344576 ≡ n / 1329227995784915872903807060280344576 % 256 = omega arith in
    omega (arith, joined _ _ _ _ _ _ _ _ _ _ _ _ _ _ _ _ n _ _ _ _ _ _ _ _ _ _ _ _ _ _ _ low (byte_and_rest n 256) (byte_and_rest n 65536) (byte_and_rest n 16777216) (byte_and_rest n 4294967296) (byte_and_rest n 1099511627776) (byte_and_rest n 281474976710656) (byte_and_rest n 72057594037927936) (byte_and_rest n 18446744073709551616) (byte_and_rest n 4722366482869645213696) (byte_and_rest n 1208925819614629174706176) (byte_and_rest n 309485009821345068724781056) (byte_and_rest n 79228162514264337593543950336) (byte_and_rest n 20282409603651670423947251286016) (byte_and_rest n 5192296858534827628530496329220096) high)

pub ipv4_back : (a : Ipv4Addr) (n : ℕ) → n < 2 ^ 32 → IsIpv4OfBits a n → ipv4_bits a ≡ n
unfolding ipv4_bits IsIpv4OfBits
ipv4_back a n fits h = ap (from_be_bytes w32) h ∙ from_be_bytes-to_be_bytes_4 n fits

pub ipv6_back : (a : Ipv6Addr) (n : ℕ) → n < 2 ^ 128 → IsIpv6OfBits a n → ipv6_bits a ≡ n
unfolding ipv6_bits IsIpv6OfBits IsPaired
ipv6_back a n fits h =
    let paired : IsPaired (to_be_bytes w128 n) = ((omega arith, (omega arith, (omega arith, (omega arith, (omega arith, (omega arith, (omega arith, (omega arith, tt))))))))) in
    ap (λ (s : List ℕ). from_be_bytes w128 (octets_of s)) h
    ∙ ap (from_be_bytes w128) (octets_of-segments_of (to_be_bytes w128 n) paired)
    ∙ from_be_bytes-to_be_bytes n fits

-- the first bits of an address are below the power of two of their number
pub first_bits_fit : (bits width count : ℕ) → bits < 2 ^ width → count ≤ width → bits / 2 ^ (width - count) < 2 ^ count
first_bits_fit bits width count fits h =
    let sum : count + (width - count) ≡ width = omega arith in
    (div-lt_iff_lt-mul (pow_pos (width - count))).1 (subst (λ k. bits < k) (ap (λ k. 2 ^ k) (sym sum) ∙ pow-add 2 count (width - count)) fits)

-- a prefix with zero bits behind it fits the address
pub prefix_fits : (prefix width count : ℕ) → prefix < 2 ^ count → count ≤ width → prefix * 2 ^ (width - count) < 2 ^ width
prefix_fits prefix width count fits h =
    let sum : count + (width - count) ≡ width = omega arith in
    subst (λ k. prefix * 2 ^ (width - count) < 2 ^ k) sum (shl_lt count (width - count) fits)

width-le : (family : Family) → width family ≤ 128
width-le Ipv4 = omega arith
width-le Ipv6 = omega arith

no_bits : (prefix : ℕ) (k : ℕ) → prefix < 1 → 0 ≡ prefix * 2 ^ k
no_bits prefix k h = let none : prefix ≡ 0 = omega arith in rw none (omega arith)

only_zero : (family : Family) (count behind prefix : ℕ) → (behind < 128 → ⊥) → behind ≡ width family - count → count ≤ width family → prefix < 2 ^ count → prefix < 1
only_zero family zero behind prefix h b fits small = small
only_zero family (suc count) behind prefix h b fits small = absurd (h (omega (arith, width-le family)))

-- a prefix that is shifted to the front of an address
pub shifted : (family : Family) (prefix count behind value : ℕ) (r : Option ℕ) → SomeIff r (behind < 128) (prefix * 2 ^ behind % 2 ^ 128)
    → value ≡ unwrap_or r 0 → behind ≡ width family - count → count ≤ width family → prefix < 2 ^ count
    → value ≡ prefix * 2 ^ (width family - count)
shifted family prefix count behind value (Some x) h v b fits small =
    v ∙ h.1 ∙ shl_exact count behind 128 small (omega (arith, width-le family)) ∙ ap (λ k. prefix * 2 ^ k) b
shifted family prefix count behind value None h v b fits small =
    v ∙ no_bits prefix (width family - count) (only_zero family count behind prefix h b fits small)

pub lies : (network : Network) → network_of (first_address network) network.prefix_length ≡ network
lies network =
    ap (λ (p : ℕ). record { family = network.family; prefix_length = network.prefix_length; prefix = p })
    (shl-shr network.prefix (width network.family - network.prefix_length))
