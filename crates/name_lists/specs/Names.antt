-- The names that a word of a list gives.
use Rattle.std.specs.Prelude.{◌≡◌, ℕ, ◌≤◌, ◌==◌, ◌||◌, Bool, true, false, List, [], ◌∷◌, ◌++◌, drop, flat_map, Option, Some, None, IsSomeAnd, if◌then◌else◌}
use Rattle.std.specs.Char.{is_ascii, is_ascii_digit}
use Rattle.std.specs.List.{list_all, list_any}
use Rattle.idna.specs.Uts46.{domain_to_ascii}
use Rattle.idna.specs.declared.deny_list.TheConstants.AsciiDenyList.{EMPTY}
use Rattle.wire_names.specs.rr.domain.DomainName.{DomainName, name_len}
use Rattle.wire_names.specs.rr.domain.NameOrder.{counted_labels}
use Rattle.wire_names.specs.rr.domain.NameText.{IsNameText, name_text}

-- What a word is in ASCII: itself, or by UTS 46 (ToASCII, section 4.2) where a byte of it is not ASCII, if that has an
-- answer.
abbrev pub ascii_text : List ℕ → Option (List ℕ)
ascii_text word = if list_all is_ascii word then Some word else domain_to_ascii EMPTY word

abbrev pub is_asterisk : ℕ → Bool
is_asterisk b = b == 42

-- a digit or a dot, of which addresses are made
abbrev pub is_address_byte : ℕ → Bool
is_address_byte b = is_ascii_digit b || (b == 46)

-- the name, fully qualified
abbrev pub qualified : DomainName → DomainName
qualified name = record { labels = name.labels; is_fqdn = true }

-- The text spells a name that a list may block, with or without its last dot: a wildcard over two labels at least (RFC
-- 4592, section 2.1.1), or a name of two labels at least, that is no address (RFC 1123, section 2.1).
pub record Spells (text : List ℕ) (name : DomainName) : Type 0 where
  pub written : DomainName
  pub spelled : IsNameText text written
  pub full : name ≡ qualified written
  pub asterisk : list_any is_asterisk (drop 1 text) ≡ false
  pub no_address : list_all is_address_byte text ≡ false
  pub labels : 2 ≤ counted_labels written.labels

-- what reading a text gives: the name as it is written, or nothing
abbrev pub ReadsName : List ℕ → Option DomainName → Type 0
ReadsName text None = (name : DomainName) → ¬ (Spells text name)
ReadsName text (Some written) = IsNameText text written × Spells text (qualified written)

-- `*` before the labels of a name (RFC 4592, section 2.1.1)
abbrev pub wildcard_over : List (List ℕ) → DomainName
wildcard_over base = record { labels = (42 ∷ []) ∷ base; is_fqdn = true }

-- a name, as it is
abbrev pub GivesName : List ℕ → List DomainName → Type 0
GivesName word names = IsSomeAnd (ascii_text word) (λ text. (name : DomainName) × Spells text name × (names ≡ name ∷ []))

-- a name that is no wildcard, and all names below it: the wildcard over it, which has 255 bytes at most (RFC 1035,
-- section 2.3.4)
pub record IsCovered (text : List ℕ) (name : DomainName) : Type 0 where
  pub spells : Spells text name
  pub plain : list_any is_asterisk text ≡ false
  pub room : name_len name.labels ≤ 253

abbrev pub GivesBelow : List ℕ → List DomainName → Type 0
GivesBelow word names = IsSomeAnd (ascii_text word) (λ text. (name : DomainName) × IsCovered text name × (names ≡ name ∷ wildcard_over name.labels ∷ []))

-- the line that says the name
abbrev pub plain_line : DomainName → List ℕ
plain_line name = name_text name.labels name.is_fqdn ++ 10 ∷ []

-- the lines that say the names, one each, in their order
abbrev pub plain_lines : List DomainName → List ℕ
plain_lines names = flat_map plain_line names
