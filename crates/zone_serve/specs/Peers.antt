-- How the address of a peer is spelled.
use Rattle.std.specs.Prelude.{◌≡◌, ◌++◌, ◌∷◌, [], ℕ, List}
use Rattle.std.specs.Net.Grammar.{IsIpText, IsIpv6Text}
use Rattle.std.specs.declared.net.ip_addr.IpAddr.{IpAddr}
use Rattle.std.specs.declared.net.ip_addr.IpAddr.TheVariants.{V6}
use Rattle.std.specs.declared.net.ipv6_addr.Ipv6Addr.{Ipv6Addr}

-- the text is one of IPv6 in brackets, 91 and 93 (RFC 3986 section 3.2.2)
abbrev pub IsInBrackets : List ℕ → Ipv6Addr → Type 0
IsInBrackets text address = (inside : List ℕ) × (text ≡ 91 ∷ inside ++ 93 ∷ []) × IsIpv6Text inside address

-- The text spells the address: one of IPv4, or one of IPv6 (RFC 4291 section 2.2), with or without brackets.
pub data IsPeerText (text : List ℕ) (address : IpAddr) : Type 0 where
  plain : IsIpText text address → IsPeerText text address
  bracketed : {inside : Ipv6Addr} → address ≡ V6 inside → IsInBrackets text inside → IsPeerText text address
