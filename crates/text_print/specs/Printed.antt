-- Words as they are printed, each behind a space, in quotes or in none (RFC 1035 section 5.1).
use Rattle.std.specs.Prelude.{◌≡◌, ◌≢◌, ℕ, ◌<◌, Bool, true, false, List, [], ◌∷◌, ◌++◌, length, get_or}
use Rattle.std.specs.List.{flat_map}
use Rattle.text_words.specs.declared.words.TextKind.{TextKind}
use Rattle.text_words.specs.declared.words.TextKind.TheVariants.{ZoneFile}
use Rattle.text_words.specs.declared.words.Word.{Word}
use Rattle.text_words.specs.Words.{ends_quoted, ends_word}

-- a word that is printed: its bytes, escapes and all, in no quotes or in quotes
pub data Printed : Type 0 where
  plain : List ℕ → Printed
  quoted : List ℕ → Printed

-- its text: a space, and the word
abbrev pub text_of : Printed → List ℕ
text_of (plain bytes) = 32 ∷ bytes
text_of (quoted bytes) = 32 ∷ 34 ∷ (bytes ++ 34 ∷ [])

-- the text of words
abbrev pub line_of : List Printed → List ℕ
line_of words = flat_map text_of words

-- a word of a text is the one that was printed
abbrev pub IsPrinted : Printed → Word → Type 0
IsPrinted (plain bytes) word = (word.quoted ≡ false) × (word.bytes.now ≡ bytes)
IsPrinted (quoted bytes) word = (word.quoted ≡ true) × (word.bytes.now ≡ bytes)

-- the same of words, in their order
abbrev pub ArePrinted : List Printed → List Word → Type 0
ArePrinted [] [] = Unit {0}
ArePrinted (p ∷ printed) (word ∷ words) = IsPrinted p word × ArePrinted printed words
ArePrinted printed words = ⊥

-- Bytes that none ends but behind a backslash, where behind each backslash stands a byte.
pub data IsWhole (ends : ℕ → Bool) : List ℕ → Type 0 where
  nothing : IsWhole ends []
  bare : {byte : ℕ} {bytes : List ℕ} → byte ≢ 92 → ends byte ≡ false → IsWhole ends bytes → IsWhole ends (byte ∷ bytes)
  escaped : {byte : ℕ} {bytes : List ℕ} → IsWhole ends bytes → IsWhole ends (92 ∷ byte ∷ bytes)

-- A word that can stand in no quotes: nothing in it ends it, and it has a byte, which is no quote.
pub record IsPlain (bytes : List ℕ) : Type 0 where
  pub whole : IsWhole (ends_word ZoneFile) bytes
  pub some : 0 < length bytes
  pub no_quote : get_or bytes 0 0 ≢ 34

-- A word that is printed is read as it is, in quotes or in none.
abbrev pub IsSound : Printed → Type 0
IsSound (plain bytes) = IsPlain bytes
IsSound (quoted bytes) = IsWhole ends_quoted bytes

-- What stands behind the words of a record: nothing, or in a zone file the end of the line.
pub data EndsHere : TextKind → List ℕ → Type 0 where
  whole : {kind : TextKind} → EndsHere kind []
  line : {behind : List ℕ} → EndsHere ZoneFile (10 ∷ behind)
