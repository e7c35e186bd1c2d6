-- The rule takes an IPv4-mapped address as the IPv4 address, and reads its sets by what they contain.
use Rattle.std.proofs.Common.{◌≡◌, ℕ, ◌+◌, ◌*◌, ◌/◌, ◌%◌, ◌^◌, ◌<◌, ◌≤◌, List, [], ◌∷◌, length, get_or, Option, Some, None, Any, All, refl, sym, ap, ◌∙◌, subst, inl, inr, arith}
use Rattle.std.specs.Int.{w32, w128, from_be_bytes}
use Rattle.std.specs.Net.Addr.{ipv4_octets, ipv4_bits, ipv6_bits, ipv6_segments, embedded_segments, IsIpv4Addr, octets_of, segments_of}
use Rattle.std.specs.declared.net.ipv4_addr.Ipv4Addr.{Ipv4Addr}
use Rattle.std.specs.declared.net.ipv6_addr.Ipv6Addr.{Ipv6Addr}
use Rattle.std.specs.declared.net.ip_addr.IpAddr.TheVariants.{V4, V6}
use Rattle.std.proofs.NetLemmas.Arrays.{four_items}
use Rattle.std.proofs.lemmas.List.Elements.{Contains-get_or, All-contains}
use Rattle.server_limits.specs.declared.access_control.Address.{Address}
use Rattle.server_limits.specs.declared.access_control.Family.{Family}
use Rattle.server_limits.specs.declared.access_control.Family.TheVariants.{Ipv4, Ipv6}
use Rattle.server_limits.specs.Access.{Network, Matches, IsLongestMatch, Permits, IsPermitted, SameNetworks, canonical, address_of, MappedFormIsAllowedAlike, OnlyMembersDecide}

-- ::ffff:a.b.c.d as a number
mapped_octets : (a b c d : ℕ) → a < 256 → b < 256 → c < 256 → d < 256 → from_be_bytes w128 (octets_of (0 ∷ 0 ∷ 0 ∷ 0 ∷ 0 ∷ 0xffff ∷ segments_of (a ∷ b ∷ c ∷ d ∷ []))) ≡ 0xffff * 2 ^ 32 + from_be_bytes w32 (a ∷ b ∷ c ∷ d ∷ [])
mapped_octets a b c d a_fits b_fits c_fits d_fits = omega arith

module _ (octets : List ℕ) (four : length octets ≡ 4) (fits : (k : ℕ) → get_or octets k 0 < 2 ^ 8) where
  mapped_number : from_be_bytes w128 (octets_of (0 ∷ 0 ∷ 0 ∷ 0 ∷ 0 ∷ 0xffff ∷ segments_of octets)) ≡ 0xffff * 2 ^ 32 + from_be_bytes w32 octets
  mapped_number =
      let P : List ℕ → Type 0 = λ os. from_be_bytes w128 (octets_of (0 ∷ 0 ∷ 0 ∷ 0 ∷ 0 ∷ 0xffff ∷ segments_of os)) ≡ 0xffff * 2 ^ 32 + from_be_bytes w32 os in
      subst P (sym (four_items octets four)) (mapped_octets _ _ _ _ (fits 0) (fits 1) (fits 2) (fits 3))

  number_fits : from_be_bytes w32 octets < 2 ^ 32
  number_fits = let a = fits 0 in let b = fits 1 in let c = fits 2 in let d = fits 3 in omega arith

canonical_number : (n low : ℕ) → low < 2 ^ 32 → n ≡ 0xffff * 2 ^ 32 + low → canonical (record { family = Ipv6; bits = n }) ≡ record { family = Ipv4; bits = low }
canonical_number n low fits is =
    let high : n / 2 ^ 32 ≡ 0xffff = omega arith in
    let rest : n % 2 ^ 32 ≡ low = omega arith in
    rw (high, rest) refl

canonical_mapped : (ip : Ipv4Addr) (mapped : Ipv6Addr) → IsIpv4Addr ip → ipv6_segments mapped ≡ embedded_segments 0xffff ip → canonical (address_of (V6 mapped)) ≡ canonical (address_of (V4 ip))
unfolding ipv4_bits ipv6_bits
canonical_mapped ip mapped (four, fits) segments =
    canonical_number _ _ (number_fits (ipv4_octets ip) four fits)
    (ap (λ xs. from_be_bytes w128 (octets_of xs)) segments ∙ mapped_number (ipv4_octets ip) four fits)

pub mapped_form_allowed_alike : MappedFormIsAllowedAlike
mapped_form_allowed_alike deny allow ip mapped held segments =
    let P : Address → Type 0 = λ address. IsPermitted deny allow address in
    let same = canonical_mapped ip mapped held segments in
    (λ h. subst P (sym same) h, λ h. subst P same h)

-- ---- what holds of one set holds of another with the same networks
SameNetworks-back : (old new : List Network) → SameNetworks old new → SameNetworks new old
SameNetworks-back old new same network = ((same network).1, (same network).0)

module _ (old new : List Network) (same : SameNetworks old new) where
  Any-members : (P : Network → Type 0) → Any P old → Any P new
  Any-members P (k, network, within, is, holds) =
      let found = (same network).1 (k, within, is) in (found.0, network, found.1, found.2, holds)

  All-members : (P : Network → Type 0) → All P old → All P new
  All-members P all k d within = All-contains P old _ all ((same _).0 (Contains-get_or new k d within))

  IsLongestMatch-members : (address : Address) (longest : Option ℕ) → IsLongestMatch old address longest → IsLongestMatch new address longest
  IsLongestMatch-members address None h = All-members (λ n. ¬ (Matches address n)) h
  IsLongestMatch-members address (Some longest) h = (Any-members _ h.0, All-members (λ n. Matches address n → n.prefix_length ≤ longest) h.1)

module _ (deny allow other_deny other_allow : List Network) (same_deny : SameNetworks deny other_deny) (same_allow : SameNetworks allow other_allow) where
  Permits-members : (family : Family) (denied allowed : Option ℕ) → Permits deny allow family denied allowed → Permits other_deny other_allow family denied allowed
  Permits-members family (Some denied) (Some allowed) h = h
  Permits-members family (Some denied) None h = h
  Permits-members family None (Some allowed) h = h
  Permits-members family None None h =
      elim h [
        | inl has ↦ inl (Any-members deny other_deny same_deny _ has)
        | inr none ↦ inr (λ has. none (Any-members other_allow allow (SameNetworks-back allow other_allow same_allow) _ has))
      ]

  IsPermitted-members : (address : Address) → IsPermitted deny allow address → IsPermitted other_deny other_allow address
  IsPermitted-members address h = record {
    denied = h.denied;
    allowed = h.allowed;
    longest_denied = IsLongestMatch-members deny other_deny same_deny address h.denied h.longest_denied;
    longest_allowed = IsLongestMatch-members allow other_allow same_allow address h.allowed h.longest_allowed;
    permits = Permits-members address.family h.denied h.allowed h.permits;
  }

pub only_members_decide : OnlyMembersDecide
only_members_decide deny allow other_deny other_allow ip same_deny same_allow =
    let denied_back = SameNetworks-back deny other_deny same_deny in
    let allowed_back = SameNetworks-back allow other_allow same_allow in (
      IsPermitted-members deny allow other_deny other_allow same_deny same_allow _,
      IsPermitted-members other_deny other_allow deny allow denied_back allowed_back _,
    )
