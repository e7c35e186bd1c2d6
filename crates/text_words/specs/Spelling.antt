-- What single words of a zone's text spell: bytes, numbers, times, names and character strings (RFC 1035 sections 3.3
-- and 5.1).
use Rattle.std.specs.Prelude.{◌≡◌, ◌≢◌, ℕ, ◌+◌, ◌*◌, ◌^◌, ◌<◌, ◌≤◌, ◌==◌, ◌⊎◌, if◌then◌else◌, Bool, true, false, List, [], ◌∷◌, ◌++◌, length, IsTrue, Option, Some, None}
use Rattle.std.specs.Char.{to_ascii_lowercase}
use Rattle.std.specs.Str.Parse.{IsNumeral, digits_value}
use Rattle.wire_names.specs.rr.domain.DomainName.{DomainName, IsLabel, name_len}
use Rattle.wire_messages.specs.rr.RecordData.{character_string}
use Rattle.text_words.specs.declared.words.Word.{Word}

-- a decimal number: digits, at least one, without a sign
pub record IsNumber (text : List ℕ) (n : ℕ) : Type 0 where
  pub digits : IsNumeral 10 text
  pub value : digits_value 10 text ≡ n

-- Text of one byte: a byte that is no backslash, which stands bare for itself; a backslash and three decimal digits for
-- the byte of that number; or a backslash and any byte but a digit for that byte.
pub data SpellsByte : List ℕ → ℕ → Bool → Type 0 where
  bare : {byte : ℕ} → byte ≢ 92 → SpellsByte (byte ∷ []) byte true
  numbered : {hundreds tens ones byte : ℕ} → IsNumber (hundreds ∷ tens ∷ ones ∷ []) byte → byte < 256 → SpellsByte (92 ∷ hundreds ∷ tens ∷ ones ∷ []) byte false
  escaped : {byte : ℕ} → (IsNumeral 10 (byte ∷ []) → ⊥) → SpellsByte (92 ∷ byte ∷ []) byte false

-- Text of bytes, one after the other. Those that stand bare pass a test.
pub data Spells (may_be_bare : ℕ → Bool) : List ℕ → List ℕ → Type 0 where
  nothing : Spells may_be_bare [] []
  more : {text bytes piece : List ℕ} {byte : ℕ} {is_bare : Bool} → Spells may_be_bare text bytes → SpellsByte piece byte is_bare → (IsTrue is_bare → IsTrue (may_be_bare byte)) → Spells may_be_bare (text ++ piece) (bytes ++ byte ∷ [])

-- any byte
abbrev pub any_byte : ℕ → Bool
any_byte byte = true

-- Bytes that stand bare in a label: none of `.`, `"`, `(`, `)` and `;`.
abbrev pub bare_in_label : ℕ → Bool
bare_in_label byte = if byte == 46 then false else if byte == 34 then false else if byte == 40 then false else if byte == 41 then false else if byte == 59 then false else true

-- the text of a label
pub record SpellsLabel (text label : List ℕ) : Type 0 where
  pub spelled : Spells bare_in_label text label
  pub sized : IsLabel label

-- labels with a dot behind each
pub data SpellsLabels : List ℕ → List (List ℕ) → Type 0 where
  nothing : SpellsLabels [] []
  more : {text piece : List ℕ} {labels : List (List ℕ)} {label : List ℕ} → SpellsLabels text labels → SpellsLabel piece label → SpellsLabels (text ++ piece ++ 46 ∷ []) (labels ++ label ∷ [])

-- labels, at least one, with a dot between them, and whether a dot stands behind the last
pub data AreLabelsWithDot : Bool → List ℕ → List (List ℕ) → Type 0 where
  dot_last : {text : List ℕ} {labels : List (List ℕ)} → SpellsLabels text labels → labels ≢ [] → AreLabelsWithDot true text labels
  no_dot : {text piece : List ℕ} {labels : List (List ℕ)} {label : List ℕ} → SpellsLabels text labels → SpellsLabel piece label → AreLabelsWithDot false (text ++ piece) (labels ++ label ∷ [])

-- The labels of a name as a text has them, and whether it is fully qualified: `.` has none and is, `@` has none and is
-- not, others are with a dot behind the last label.
pub data AreNameLabels : Bool → List ℕ → List (List ℕ) → Type 0 where
  root : AreNameLabels true (46 ∷ []) []
  origin : AreNameLabels false (64 ∷ []) []
  labels : {is_fqdn : Bool} {text : List ℕ} {labels : List (List ℕ)} → text ≢ 46 ∷ [] → text ≢ 64 ∷ [] → AreLabelsWithDot is_fqdn text labels → AreNameLabels is_fqdn text labels

-- The text of a name, and its labels: where it is not fully qualified, those of the origin stand behind its own (RFC
-- 1035 section 5.1).
pub data SpellsName (origin : Option DomainName) : List ℕ → List (List ℕ) → Type 0 where
  absolute : {text : List ℕ} {labels : List (List ℕ)} → AreNameLabels true text labels → SpellsName origin text labels
  relative : {text : List ℕ} {labels : List (List ℕ)} {o : DomainName} → origin ≡ Some o → AreNameLabels false text labels → SpellsName origin text (labels ++ o.labels)

-- how many seconds a unit has: a second, minute, hour, day or week, in either letter case
abbrev pub unit_seconds : ℕ → Option ℕ
unit_seconds unit = seconds_of (to_ascii_lowercase unit) where
  seconds_of : ℕ → Option ℕ
  seconds_of unit = if unit == 115 then Some 1 else if unit == 109 then Some 60 else if unit == 104 then Some 3600 else if unit == 100 then Some 86400 else if unit == 119 then Some 604800 else None

-- numbers with a unit behind each, and the sum of their seconds
pub data SpellsUnits : List ℕ → ℕ → Type 0 where
  nothing : SpellsUnits [] 0
  more : {text digits : List ℕ} {sum n seconds : ℕ} (unit : ℕ) → SpellsUnits text sum → IsNumber digits n → unit_seconds unit ≡ Some seconds → SpellsUnits (text ++ digits ++ unit ∷ []) (sum + n * seconds)

-- a time in seconds: a number of them, or numbers with units
pub data SpellsTime : List ℕ → ℕ → Type 0 where
  seconds : {text : List ℕ} {n : ℕ} → IsNumber text n → SpellsTime text n
  units : {text : List ℕ} {n : ℕ} → 0 < length text → SpellsUnits text n → SpellsTime text n

-- Octets stand behind others, and are such as a fact says.
abbrev pub Puts : (List ℕ → Type 0) → List ℕ → List ℕ → Type 0
Puts Are before after = (octets : List ℕ) × (after ≡ before ++ octets) × Are octets

-- a character string: its length in one octet, and so many octets (RFC 1035 section 3.3)
pub record IsString (word : Word) (octets : List ℕ) : Type 0 where
  pub bytes : List ℕ
  pub spelled : Spells any_byte word.bytes.now bytes
  pub short : length bytes < 256
  pub counted : octets ≡ character_string bytes

-- No byte is spelled at the front of a text: an escape is not whole, or the text is empty.
abbrev pub HasNoFirstByte : List ℕ → Type 0
HasNoFirstByte text = (piece behind : List ℕ) (byte : ℕ) (is_bare : Bool) → SpellsByte piece byte is_bare → text ≡ piece ++ behind → ⊥

-- A word spells no bytes: an escape in it is not whole.
abbrev pub SpellsNoBytes : Word → Type 0
SpellsNoBytes word = (bytes : List ℕ) → Spells any_byte word.bytes.now bytes → ⊥

-- A word is no character string: it spells no bytes, or more than 255.
abbrev pub IsNoString : Word → Type 0
IsNoString word = (octets : List ℕ) → IsString word octets → ⊥

-- Digits are no number of 32 bits.
abbrev pub IsNoNumber : List ℕ → Type 0
IsNoNumber text = (n : ℕ) → IsNumber text n → n < 2 ^ 32 → ⊥

-- A word is no number of 32 bits, and no time of 32 bits: it stands in quotes, or spells none, or one that is greater.
abbrev pub IsNoNumberWord : Word → Type 0
IsNoNumberWord word = (n : ℕ) → word.quoted ≡ false → IsNumber word.bytes.now n → n < 2 ^ 32 → ⊥

abbrev pub IsNoTime : Word → Type 0
IsNoTime word = (n : ℕ) → word.quoted ≡ false → SpellsTime word.bytes.now n → n < 2 ^ 32 → ⊥

-- No label stands at the front of a text, to its end or to a dot behind it.
abbrev pub HasNoLabel : List ℕ → Type 0
HasNoLabel text = (piece label : List ℕ) → SpellsLabel piece label → (text ≡ piece) ⊎ ((behind : List ℕ) × (text ≡ piece ++ 46 ∷ behind)) → ⊥

-- No labels of a name stand in a text that have at most 255 bytes in wire form, the end byte counted (RFC 1035 section
-- 2.3.4).
abbrev pub HasNoLabels : List ℕ → Type 0
HasNoLabels text = (dot : Bool) (labels : List (List ℕ)) → AreLabelsWithDot dot text labels → name_len labels ≤ 255 → ⊥

abbrev pub HasNoNameLabels : Word → Type 0
HasNoNameLabels word = (is_fqdn : Bool) (labels : List (List ℕ)) → word.quoted ≡ false → AreNameLabels is_fqdn word.bytes.now labels → name_len labels ≤ 255 → ⊥

-- A word is no name with an origin: it stands in quotes, or spells none, or one of more than 255 bytes in wire form, or
-- one that is relative with no origin.
abbrev pub IsNoName : Option DomainName → Word → Type 0
IsNoName o word = (labels : List (List ℕ)) → word.quoted ≡ false → SpellsName o word.bytes.now labels → name_len labels ≤ 255 → ⊥

-- A text spells bytes in one way; a word spells one character string at most, one name with an origin, and one time.
abbrev pub BytesSpelledOnce : Type 0
BytesSpelledOnce = (text bytes others : List ℕ) → Spells any_byte text bytes → Spells any_byte text others → bytes ≡ others

abbrev pub StringsSpelledOnce : Type 0
StringsSpelledOnce = (word : Word) (octets others : List ℕ) → IsString word octets → IsString word others → octets ≡ others

abbrev pub NamesSpelledOnce : Type 0
NamesSpelledOnce = (origin : Option DomainName) (text : List ℕ) (labels others : List (List ℕ)) → SpellsName origin text labels → SpellsName origin text others → labels ≡ others

abbrev pub TimesSpelledOnce : Type 0
TimesSpelledOnce = (text : List ℕ) (n other : ℕ) → SpellsTime text n → SpellsTime text other → n ≡ other
