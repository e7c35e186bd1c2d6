-- Bytes, names and character strings as the text of a zone spells them (RFC 1035 section 5.1).
use Rattle.std.specs.Prelude.{ℕ, ◌+◌, ◌/◌, ◌%◌, ◌==◌, ◌||◌, ◌&&◌, not, Bool, true, false, if◌then◌else◌, List, [], ◌∷◌, ◌++◌, codes, nat_lt}
use Rattle.std.specs.List.{flat_map}
use Rattle.wire_names.specs.rr.domain.DomainName.{DomainName}

-- The byte has a meaning of its own, so that a backslash stands before it: `"` and `\`, and outside of quotes `$`, `(`,
-- `)`, `.`, `;` and `@`.
abbrev pub is_special : Bool → ℕ → Bool
is_special quoted b =
    b == 34 || b == 92
    || (not quoted && (b == 36 || b == 40 || b == 41 || b == 46 || b == 59 || b == 64))

-- the byte stands for itself: a printable ASCII character, and a space within quotes
abbrev pub is_plain : Bool → ℕ → Bool
is_plain quoted b = (nat_lt 32 b && nat_lt b 127) || (quoted && b == 32)

-- a backslash and three decimal digits
abbrev pub decimal_escape : ℕ → List ℕ
decimal_escape b = 92 ∷ (48 + b / 100) ∷ (48 + b / 10 % 10) ∷ (48 + b % 10) ∷ []

-- how a byte is spelled, within quotes or not
abbrev pub byte_text : Bool → ℕ → List ℕ
byte_text quoted b =
    if is_special quoted b then 92 ∷ b ∷ [] else (if is_plain quoted b then b ∷ [] else decimal_escape b)

-- how bytes are spelled
abbrev pub bytes_text : Bool → List ℕ → List ℕ
bytes_text quoted bytes = flat_map (byte_text quoted) bytes

-- labels with dots between them
abbrev pub labels_text : List (List ℕ) → List ℕ
labels_text [] = []
labels_text (l ∷ ls) = bytes_text false l ++ flat_map (λ m. 46 ∷ bytes_text false m) ls

-- The name as it is printed: its labels, and a final dot where it is fully qualified. The root is `.`, and `@` is the
-- name of no labels that is not fully qualified.
abbrev pub spelled_name : DomainName → List ℕ
spelled_name name = spelled name.labels name.is_fqdn where
  spelled : List (List ℕ) → Bool → List ℕ
  spelled [] true = codes "."
  spelled [] false = codes "@"
  spelled (l ∷ ls) is_fqdn = labels_text (l ∷ ls) ++ (if is_fqdn then codes "." else [])
