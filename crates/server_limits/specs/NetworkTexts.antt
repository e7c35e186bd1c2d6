-- How networks are spelled: an address in dotted decimals or in groups of hex digits (RFC 4291, section 2.2), and
-- behind a slash how many of its leftmost bits are the prefix (RFC 4632, section 3.1; RFC 4291, section 2.3).
use Rattle.std.specs.Prelude.{◌≡◌, ◌==◌, ◌<◌, ◌≤◌, ◌++◌, ℕ, List, codes, length}
use Rattle.std.specs.List.{after_first, before_first, position_or_len}
use Rattle.std.specs.Net.Grammar.{IsIpText, IsNumber}
use Rattle.std.specs.Str.Parse.{IsNumeral, digits_value}
use Rattle.std.specs.declared.net.ip_addr.IpAddr.{IpAddr}
use Rattle.server_limits.specs.Access.{Network, address_of, network_of, width}
use Rattle.server_limits.specs.declared.access_control.text.IpNetTextError.{IpNetTextError}
use Rattle.server_limits.specs.declared.access_control.text.IpNetTextError.TheVariants.{Address, PrefixLength, PrefixTooLong}

-- An address that one text spells, and the length of a prefix that the other spells in decimal digits, are those of the
-- network: the prefix is no longer than the address, and what stands behind it in the address does not matter.
pub record IsPrefixText (written digits : List ℕ) (network : Network) : Type 0 where
  pub address : IpAddr
  pub spelled : IsIpText written address
  pub counted : IsNumber 10 digits network.prefix_length
  pub fits : network.prefix_length ≤ width (address_of address).family
  pub network_is : network ≡ network_of (address_of address) network.prefix_length

-- The text spells an address, and the network has this address alone.
abbrev pub IsHostText : List ℕ → Network → Type 0
IsHostText text network = (address : IpAddr) × IsIpText text address × (network ≡ network_of (address_of address) (width (address_of address).family))

-- The text spells the network: an address, a slash and the length of the prefix; or an address alone, whose prefix is
-- all of it.
pub data IsNetworkText (text : List ℕ) (network : Network) : Type 0 where
  prefix : (written digits : List ℕ) → text ≡ written ++ (codes "/" ++ digits) → IsPrefixText written digits network → IsNetworkText text network
  host : IsHostText text network → IsNetworkText text network

-- the text has a slash, 47
abbrev pub HasSlash : List ℕ → Type 0
HasSlash text = position_or_len (λ b. b == 47) text < length text

-- what stands before the first slash of a text, or all of a text without one
abbrev pub before_slash : List ℕ → List ℕ
before_slash text = before_first (λ b. b == 47) text

-- what stands behind the first slash
abbrev pub behind_slash : List ℕ → List ℕ
behind_slash text = after_first (λ b. b == 47) text

-- the text spells no address
abbrev pub IsNoAddress : List ℕ → Type 0
IsNoAddress text = (address : IpAddr) → ¬ (IsIpText text address)

-- What is wrong with the length of a prefix by itself: it is no decimal number, or one that is greater than any address
-- has bits.
abbrev pub IsLengthFault : List ℕ → IpNetTextError → Type 0
IsLengthFault digits PrefixLength = ¬ (IsNumeral 10 digits)
IsLengthFault digits PrefixTooLong = IsNumeral 10 digits × (128 < digits_value 10 digits)
IsLengthFault digits other = ⊥

-- What is wrong with the two parts of a text: the first is no address, the second no decimal number, or its number is
-- greater than the address has bits.
abbrev pub IsPartsFault : List ℕ → List ℕ → IpNetTextError → Type 0
IsPartsFault written digits Address = IsNoAddress written
IsPartsFault written digits PrefixLength = ¬ (IsNumeral 10 digits)
IsPartsFault written digits PrefixTooLong = (address : IpAddr) × IsIpText written address × IsNumeral 10 digits
    × (width (address_of address).family < digits_value 10 digits)

-- What is wrong with a text that spells no network: with its parts, where it has a slash, and else that it is no
-- address.
pub data IsTextFault (text : List ℕ) (fault : IpNetTextError) : Type 0 where
  parts : HasSlash text → IsPartsFault (before_slash text) (behind_slash text) fault → IsTextFault text fault
  whole : ¬ (HasSlash text) → fault ≡ Address → IsNoAddress text → IsTextFault text fault

-- A text spells one network at most.
abbrev pub TextSpellsOneNetwork : Type 0
TextSpellsOneNetwork = (text : List ℕ) (a b : Network) → IsNetworkText text a → IsNetworkText text b → a ≡ b
