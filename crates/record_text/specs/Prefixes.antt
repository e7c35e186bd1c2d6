-- Lists of address prefixes (RFC 3123), one a word.
use Rattle.std.specs.Prelude.{◌≡◌, ℕ, ◌+◌, ◌≤◌, ◌==◌, if◌then◌else◌, Bool, false, List, [], ◌∷◌, ◌++◌, length, get_or, drop}
use Rattle.std.specs.Int.{w16, to_be_bytes}
use Rattle.std.specs.Net.Addr.{ipv4_octets, ipv6_octets}
use Rattle.std.specs.Net.Grammar.{IsIpv4Text, IsIpv6Text}
use Rattle.std.specs.declared.net.ipv4_addr.Ipv4Addr.{Ipv4Addr}
use Rattle.std.specs.declared.net.ipv6_addr.Ipv6Addr.{Ipv6Addr}
use Rattle.text_words.specs.declared.words.Word.{Word}
use Rattle.text_words.specs.Cuts.{before_byte, behind_byte}
use Rattle.text_words.specs.Spelling.{IsNumber}

-- whether `!` stands first, and what stands behind it
abbrev pub is_negated : List ℕ → Bool
is_negated text = get_or text 0 0 == 33

abbrev pub without_mark : List ℕ → List ℕ
without_mark text = if is_negated text then drop 1 text else text

-- an octet that is 0, before none, is none
abbrev pub trimmed_before : ℕ → List ℕ → List ℕ
trimmed_before first [] = if first == 0 then [] else first ∷ []
trimmed_before first (second ∷ octets) = first ∷ second ∷ octets

-- octets without those at their end that are 0 (RFC 3123 section 4)
abbrev pub trimmed : List ℕ → List ℕ
trimmed [] = []
trimmed (first ∷ octets) = trimmed_before first (trimmed octets)

-- the text of an address of a family: 1 is that of IPv4, 2 that of IPv6 (RFC 3123 section 4)
pub data IsAddressOf : ℕ → List ℕ → List ℕ → Type 0 where
  ipv4 : {text : List ℕ} {address : Ipv4Addr} → IsIpv4Text text address → IsAddressOf 1 text (ipv4_octets address)
  ipv6 : {text : List ℕ} {address : Ipv6Addr} → IsIpv6Text text address → IsAddressOf 2 text (ipv6_octets address)

-- how many bits an address of a family has
abbrev pub address_bits : ℕ → ℕ
address_bits family = if family == 1 then 32 else 128

-- The parts of a prefix: the family, a colon, an address, a slash, and how many bits of it are meant.
pub record IsPrefixOf (text : List ℕ) (family bits : ℕ) (address : List ℕ) : Type 0 where
  pub of_family : IsNumber (before_byte 58 text) family
  pub addressed : IsAddressOf family (before_byte 47 (behind_byte 58 text)) address
  pub of_bits : IsNumber (behind_byte 47 (behind_byte 58 text)) bits
  pub small : bits ≤ address_bits family

-- how many octets of an address are told, and 128 more where the prefix is negated
abbrev pub told_len : Bool → List ℕ → ℕ
told_len negated address = length (trimmed address) + (if negated then 128 else 0)

-- A prefix (RFC 3123 sections 4 and 5): `!` where it is negated, and its parts. The octets are the family, the bits,
-- how many octets of the address are told, and these.
pub record SpellsPrefix (text octets : List ℕ) : Type 0 where
  pub family : ℕ
  pub bits : ℕ
  pub address : List ℕ
  pub parts : IsPrefixOf (without_mark text) family bits address
  pub together : octets ≡ to_be_bytes w16 family ++ bits ∷ told_len (is_negated text) address ∷ trimmed address

-- prefixes, one a word
pub data ArePrefixes : List Word → List ℕ → Type 0 where
  none : ArePrefixes [] []
  more : {words : List Word} {octets own : List ℕ} (word : Word) → ArePrefixes words octets → word.quoted ≡ false → SpellsPrefix word.bytes.now own → ArePrefixes (words ++ word ∷ []) (octets ++ own)
