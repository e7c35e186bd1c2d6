-- Which addresses may use a server: sets of denied and of allowed networks, and the rule between them.
--
-- A set of networks is held as a list. Only what the list contains matters, in no definition its order or how often a
-- network stands in it.
use Rattle.std.specs.Prelude.{◌≡◌, ℕ, ◌*◌, ◌/◌, ◌%◌, ◌-◌, ◌^◌, ◌<◌, ◌≤◌, ◌↔◌, ◌⊎◌, ◌==◌, if◌then◌else◌, List, length, take, Option, Some, None, Any, All, Contains}
use Rattle.std.specs.Net.Addr.{ipv4_bits, ipv6_bits, ipv6_segments, embedded_segments, IsIpv4Addr}
use Rattle.std.specs.declared.net.ipv4_addr.Ipv4Addr.{Ipv4Addr}
use Rattle.std.specs.declared.net.ipv6_addr.Ipv6Addr.{Ipv6Addr}
use Rattle.std.specs.declared.net.ip_addr.IpAddr.{IpAddr}
use Rattle.std.specs.declared.net.ip_addr.IpAddr.TheVariants.{V4, V6}
use Rattle.server_limits.specs.declared.access_control.Family.{Family}
use Rattle.server_limits.specs.declared.access_control.Family.TheVariants.{Ipv4, Ipv6}
use Rattle.server_limits.specs.declared.access_control.Address.{Address}

-- how many bits an address of the family has
abbrev pub width : Family → ℕ
width Ipv4 = 32
width Ipv6 = 128

-- the address as it is written, its bits as one number with the first bit highest
abbrev pub address_of : IpAddr → Address
address_of (V4 ip) = record { family = Ipv4; bits = ipv4_bits ip }
address_of (V6 ip) = record { family = Ipv6; bits = ipv6_bits ip }

-- The address that networks are compared with. An IPv4-mapped IPv6 address, 80 zero bits and 16 one bits before the 32
-- bits of an IPv4 address (RFC 4291, section 2.5.5.2), stands for that IPv4 address.
abbrev pub canonical : Address → Address
canonical address = canonical_of address.family address.bits where
  canonical_of : Family → ℕ → Address
  canonical_of Ipv4 bits = record { family = Ipv4; bits = bits }
  canonical_of Ipv6 bits =
      if bits / 2 ^ 32 == 0xffff then record { family = Ipv4; bits = bits % 2 ^ 32 } else record { family = Ipv6; bits = bits }

-- the first bits of an address, as a number
abbrev pub first_bits : Address → ℕ → ℕ
first_bits address count = address.bits / 2 ^ (width address.family - count)

-- A network of addresses (RFC 4632, section 3.1; RFC 4291, section 2.3): its family, its prefix length in bits, and the
-- bits of the prefix as a number.
pub record Network : Type 0 where
  pub family : Family
  pub prefix_length : ℕ
  pub prefix : ℕ

-- Two networks are the same: they are of one family, and their prefixes are of one length and have the same bits. So a
-- network of IPv4 is never one of IPv6, and 0.0.0.0/0 is another network than 0.0.0.0/8.
pub record SameNetwork (a b : Network) : Type 0 where
  pub family : a.family ≡ b.family
  pub prefix_length : a.prefix_length ≡ b.prefix_length
  pub prefix : a.prefix ≡ b.prefix

-- the network of this prefix length that the address lies in
abbrev pub network_of : Address → ℕ → Network
network_of address count = record { family = address.family; prefix_length = count; prefix = first_bits address count }

-- the first address of the network: its prefix, and behind it zero bits
abbrev pub first_address : Network → Address
first_address network = record {
  family = network.family;
  bits = network.prefix * 2 ^ (width network.family - network.prefix_length);
}

-- the address lies in the network: it is of the network's family, and begins with the network's prefix
pub record Matches (address : Address) (network : Network) : Type 0 where
  pub family : network.family ≡ address.family
  pub prefix : network.prefix ≡ first_bits address network.prefix_length

-- The greatest prefix length of the networks in the set that match the address, `None` where none matches. A network
-- of length 0 matches each address of its family.
abbrev pub IsLongestMatch : List Network → Address → Option ℕ → Type 0
IsLongestMatch set address None = All (λ network. ¬ (Matches address network)) set
IsLongestMatch set address (Some longest) =
    Any (λ network. Matches address network × (network.prefix_length ≡ longest)) set
    × All (λ network. Matches address network → network.prefix_length ≤ longest) set

-- the set has a network of the family
abbrev pub HasFamily : List Network → Family → Type 0
HasFamily set family = Any (λ network. network.family ≡ family) set

-- The rule at the longest matches of the deny set and the allow set: the longer one decides, and the deny set where
-- they are equally long. Where nothing matches, a family that has allowed networks and no denied ones is refused.
abbrev pub Permits : List Network → List Network → Family → Option ℕ → Option ℕ → Type 0
Permits deny allow family (Some denied) (Some allowed) = denied < allowed
Permits deny allow family (Some denied) None = ⊥
Permits deny allow family None (Some allowed) = Unit {0}
Permits deny allow family None None = HasFamily deny family ⊎ ¬ (HasFamily allow family)

-- the rule permits the address, at its longest matches
pub record IsPermitted (deny allow : List Network) (address : Address) : Type 0 where
  pub denied : Option ℕ
  pub allowed : Option ℕ
  pub longest_denied : IsLongestMatch deny address denied
  pub longest_allowed : IsLongestMatch allow address allowed
  pub permits : Permits deny allow address.family denied allowed

-- an address may use a server that has these networks denied and allowed
abbrev pub IsAllowed : List Network → List Network → IpAddr → Type 0
IsAllowed deny allow ip = IsPermitted deny allow (canonical (address_of ip))

-- the sets of denied and of allowed networks
pub record AccessSets : Type 0 where
  pub deny : List Network
  pub allow : List Network

-- the new set has the networks of the old one and the given ones, and no others
abbrev pub Inserts : List Network → List Network → List Network → Type 0
Inserts old given new = (network : Network) → Contains new network ↔ (Contains old network ⊎ Contains given network)

-- the first so many of the given networks were inserted, but not all of them
abbrev pub InsertsFirst : List Network → List Network → List Network → Type 0
InsertsFirst old given new = (count : ℕ) × (count < length given) × Inserts old (take count given) new

-- the two sets have the same networks
abbrev pub SameNetworks : List Network → List Network → Type 0
SameNetworks old new = (network : Network) → Contains new network ↔ Contains old network

-- an IPv4 address and its IPv4-mapped form ::ffff:a.b.c.d (RFC 4291, section 2.5.5.2) are allowed alike
abbrev pub MappedFormIsAllowedAlike : Type 0
MappedFormIsAllowedAlike = (deny allow : List Network) (ip : Ipv4Addr) (mapped : Ipv6Addr) → IsIpv4Addr ip
    → ipv6_segments mapped ≡ embedded_segments 0xffff ip
    → IsAllowed deny allow (V4 ip) ↔ IsAllowed deny allow (V6 mapped)

-- only what the two sets contain decides, in whatever order and however often
abbrev pub OnlyMembersDecide : Type 0
OnlyMembersDecide = (deny allow other_deny other_allow : List Network) (ip : IpAddr) → SameNetworks deny other_deny
    → SameNetworks allow other_allow → IsAllowed deny allow ip ↔ IsAllowed other_deny other_allow ip
