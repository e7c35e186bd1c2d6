-- Addresses as the octets that a record has of them (RFC 1035 section 3.4.1, RFC 3596 section 2.2).
use Rattle.std.specs.Prelude.{◌≡◌, ℕ, ◌<◌, ◌^◌, List, length}
use Rattle.std.specs.List.{AllByRecursion}
use Rattle.std.specs.Net.Addr.{ipv4_octets, ipv6_segments, segments_of}
use Rattle.std.specs.declared.net.ipv4_addr.Ipv4Addr.{Ipv4Addr}
use Rattle.std.specs.declared.net.ipv6_addr.Ipv6Addr.{Ipv6Addr}

-- the IPv4 address of four octets
abbrev pub ipv4_of : List ℕ → Ipv4Addr
ipv4_of octets = record { octets = octets }

-- the IPv6 address of sixteen octets
abbrev pub ipv6_of : List ℕ → Ipv6Addr
ipv6_of octets = record { segments = segments_of octets }

-- four octets
pub record IsIpv4 (address : Ipv4Addr) : Type 0 where
  pub four : length (ipv4_octets address) ≡ 4

-- eight segments of sixteen bits
pub record IsIpv6 (address : Ipv6Addr) : Type 0 where
  pub eight : length (ipv6_segments address) ≡ 8
  pub each : AllByRecursion (λ segment. segment < 2 ^ 16) (ipv6_segments address)
