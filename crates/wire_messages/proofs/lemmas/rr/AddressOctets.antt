-- The segments of an IPv6 address and its octets say the same.
use Rattle.std.proofs.Common.{◌≡◌, ℕ, suc, ◌+◌, ◌-◌, ◌*◌, ◌/◌, ◌%◌, ◌^◌, ◌<◌, List, [], ◌∷◌, length, refl, ap, ◌∙◌, arith}
use Rattle.std.specs.List.{AllByRecursion}
use Rattle.std.specs.Net.Addr.{segments_of, octets_of}
use Rattle.std.proofs.lemmas.Nat.{div-add-mod', div-mul-add, mod-mul-add}
use Rattle.wire_names.specs.serialize.layout.Bytes.{AreBytes}

-- the segments of a list of segments' octets are these segments
pub segments_again : (segments : List ℕ) → segments_of (octets_of segments) ≡ segments
segments_again [] = refl
segments_again (s ∷ segments) =
    let high : s / 256 * 256 + s % 256 ≡ s = div-add-mod' s 256 in
    let rest = segments_again segments in
    ap (λ n. n ∷ segments_of (octets_of segments)) high ∙ ap (λ l. s ∷ l) rest

-- each segment has two octets
pub octets_len : (segments : List ℕ) → length (octets_of segments) ≡ 2 * length segments
octets_len [] = refl
octets_len (s ∷ segments) = omega (arith, octets_len segments)

-- bytes of an even number, as segments
pub record AsSegments (octets : List ℕ) (count : ℕ) : Type 0 where
  pub back : octets_of (segments_of octets) ≡ octets
  pub len : length (segments_of octets) ≡ count
  pub each : AllByRecursion (λ segment. segment < 2 ^ 16) (segments_of octets)

-- bytes of an even number are the octets of their segments
pub as_segments : (octets : List ℕ) (count : ℕ) → length octets ≡ 2 * count → AreBytes octets → AsSegments octets count
as_segments [] count e a = record { back = refl; len = omega arith; each = tt }
as_segments (x ∷ []) count e a = absurd (omega arith)
as_segments (x ∷ y ∷ octets) count e a =
    let low : y < 256 = a 1 in
    let high : x < 256 = a 0 in
    let rest = as_segments octets (count - 1) (omega arith) (λ k. a (suc (suc k))) in
    let first : (x * 256 + y) / 256 ≡ x = div-mul-add x 256 y low in
    let second : (x * 256 + y) % 256 ≡ y = mod-mul-add x 256 y low in
    record {
      back = ap (λ n. n ∷ (x * 256 + y) % 256 ∷ octets_of (segments_of octets)) first ∙ ap (λ n. x ∷ n ∷ octets_of (segments_of octets)) second ∙ ap (λ l. x ∷ y ∷ l) rest.back;
      len = omega (arith, rest.len);
      each = (omega arith, rest.each);
    }
