-- What words of digits in base 16 and 32 spell: octets in groups of digits.
use Rattle.std.specs.Prelude.{◌≡◌, ◌≢◌, ℕ, ◌+◌, ◌-◌, ◌*◌, ◌<◌, ◌≤◌, ◌==◌, ◌⊎◌, if◌then◌else◌, not, List, [], ◌∷◌, ◌++◌, length, get_or, drop, filter, Option, Some, None, Ok}
use Rattle.std.specs.Int.{w16, w64, to_be_bytes}
use Rattle.std.specs.Str.Parse.{AllDigits, digits_value}
use Rattle.hex.specs.Hex.{decode_of}
use Rattle.record_text.specs.declared.data.hex_groups.Group.{Group}
use Rattle.record_text.specs.declared.data.hex_groups.Group.TheVariants as group

-- digits in base 32, of which those above 9 are the letters from A on (RFC 4648 section 7)
pub record IsBase32 (text : List ℕ) (n : ℕ) : Type 0 where
  pub digits : AllDigits 32 text
  pub value : digits_value 32 text ≡ n

-- octets in base 32 in whole groups: each eight digits are the number of forty bits that five octets make
pub data SpellsGroups : List ℕ → List ℕ → Type 0 where
  none : SpellsGroups [] []
  more : {text piece octets : List ℕ} (n : ℕ) → SpellsGroups text octets → length piece ≡ 8 → IsBase32 piece n → SpellsGroups (text ++ piece) (octets ++ drop 3 (to_be_bytes w64 n))

-- A last group of fewer digits, by their count: how many octets it makes, and by how much its number is greater than
-- the one that these make, since the bits behind theirs, from one to four, are zero (RFC 4648 sections 6 and 3.5).
abbrev pub last_group : ℕ → Option (ℕ × ℕ)
last_group count = if count == 2 then Some (1, 4) else if count == 4 then Some (2, 16) else if count == 5 then Some (3, 2) else if count == 7 then Some (4, 8) else None

-- the digits behind whole groups, where there are some, and their octets
pub data IsLastGroup : List ℕ → List ℕ → Type 0 where
  nothing : IsLastGroup [] []
  some : {piece : List ℕ} (n count greater : ℕ) → last_group (length piece) ≡ Some (count, greater) → IsBase32 piece (n * greater) → IsLastGroup piece (drop (8 - count) (to_be_bytes w64 n))

-- octets in base 32, without padding
pub record SpellsBase32 (text octets : List ℕ) : Type 0 where
  pub front : List ℕ
  pub last : List ℕ
  pub front_octets : List ℕ
  pub last_octets : List ℕ
  pub in_order : text ≡ front ++ last
  pub together : octets ≡ front_octets ++ last_octets
  pub groups : SpellsGroups front front_octets
  pub ended : IsLastGroup last last_octets

-- hexadecimal digits, and the number that they are
pub record IsHex (text : List ℕ) (n : ℕ) : Type 0 where
  pub digits : AllDigits 16 text
  pub value : digits_value 16 text ≡ n

-- A group of hexadecimal digits, and its octets: one for two digits, or sixteen bits for one to four.
pub data IsGroup : Group → List ℕ → List ℕ → Type 0 where
  octet : {text : List ℕ} {n : ℕ} → length text ≡ 2 → IsHex text n → IsGroup group.Octet text (n ∷ [])
  bits16 : {text : List ℕ} {n : ℕ} → 0 < length text → length text ≤ 4 → IsHex text n → IsGroup group.Bits16 text (to_be_bytes w16 n)

-- so many groups with a byte between them, and their octets
pub data SpellsHexGroups (between : ℕ) (kind : Group) : ℕ → List ℕ → List ℕ → Type 0 where
  first : {text octets : List ℕ} → IsGroup kind text octets → SpellsHexGroups between kind 1 text octets
  more : {count : ℕ} {text octets piece own : List ℕ} → SpellsHexGroups between kind count text octets → IsGroup kind piece own → SpellsHexGroups between kind (count + 1) (text ++ between ∷ piece) (octets ++ own)

-- a text without its dots
abbrev pub without_dots : List ℕ → List ℕ
without_dots text = filter (λ byte. not (byte == 46)) text

-- An address of the OSI network layer (RFC 1706 section 5): 0x, and two hexadecimal digits for each octet, at least
-- one, with dots anywhere among them.
pub record SpellsNsap (text octets : List ℕ) : Type 0 where
  pub zero : get_or text 0 0 ≡ 48
  pub is_x : (get_or text 1 0 ≡ 120) ⊎ (get_or text 1 0 ≡ 88)
  pub spelled : decode_of (without_dots (drop 2 text)) ≡ Ok octets
  pub some : octets ≢ []
