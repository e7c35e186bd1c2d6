-- The words of a text: of one line, or of an entry of a zone file (RFC 1035 section 5.1). Places count the bytes before
-- them.
use Rattle.std.specs.Prelude.{◌≡◌, ◌≢◌, ℕ, ◌+◌, ◌-◌, ◌<◌, ◌≤◌, ◌==◌, ◌⊎◌, Bool, true, false, min, if◌then◌else◌, List, [], ◌∷◌, ◌++◌, length, get_or, take, drop, Option, Some, None}
use Rattle.text_words.specs.declared.words.TextKind.{TextKind}
use Rattle.text_words.specs.declared.words.TextKind.TheVariants.{Line, ZoneFile}
use Rattle.text_words.specs.declared.words.Word.{Word}

-- What is left of a text that is read word by word: it begins at a place, within so many parentheses.
pub record WordsLeft : Type 0 where
  pub text : List ℕ
  pub place : ℕ
  pub kind : TextKind
  pub depth : ℕ

-- what is left of a text from a place on, within so many parentheses
abbrev pub words_left : TextKind → List ℕ → ℕ → ℕ → WordsLeft
words_left kind text place depth = record { text = text; place = place; kind = kind; depth = depth }

-- a blank: a space, a tab, or a byte that ends lines
abbrev pub is_blank : ℕ → Bool
is_blank byte = if byte == 32 then true else if byte == 9 then true else if byte == 13 then true else byte == 10

-- A word in no quotes ends before a blank, before a comment, before a quote, which begins the next word, and in a zone
-- file before a parenthesis.
abbrev pub ends_word : TextKind → ℕ → Bool
ends_word Line byte = if is_blank byte then true else if byte == 59 then true else byte == 34
ends_word ZoneFile byte = if is_blank byte then true else if byte == 59 then true else if byte == 34 then true else if byte == 40 then true else byte == 41

-- A quote ends a word in quotes.
abbrev pub ends_quoted : ℕ → Bool
ends_quoted byte = byte == 34

-- this byte stands at a place of a text
pub record IsByteAt (text : List ℕ) (place byte : ℕ) : Type 0 where
  pub within : place < length text
  pub is : get_or text place 0 ≡ byte

-- the rest of a line, to its line feed or the end of the text
pub record IsRestOfLine (text : List ℕ) (place end : ℕ) : Type 0 where
  pub on : place ≤ end
  pub within : end ≤ length text
  pub one_line : (i : ℕ) → place ≤ i → i < end → get_or text i 0 ≢ 10
  pub last : end < length text → get_or text end 0 ≡ 10

-- A comment goes to the end of its line, or of the text that is one line.
abbrev pub IsComment : TextKind → List ℕ → ℕ → ℕ → Type 0
IsComment Line text place end = end ≡ length text
IsComment ZoneFile text place end = IsRestOfLine text place end

-- A line feed parts words of a line, and of an entry within parentheses; outside of them it ends the entry.
abbrev pub CrossesLines : TextKind → ℕ → Type 0
CrossesLines Line depth = Unit {0}
CrossesLines ZoneFile depth = 0 < depth

-- A piece of what stands between words, from a place within so many parentheses to the place behind it: a blank, a line
-- feed that ends no entry, a parenthesis of a zone file, or a comment.
pub data IsPiece (kind : TextKind) (text : List ℕ) (place depth : ℕ) : ℕ → ℕ → Type 0 where
  blank : {byte : ℕ} → IsByteAt text place byte → is_blank byte ≡ true → byte ≢ 10 → IsPiece kind text place depth (place + 1) depth
  line_feed : IsByteAt text place 10 → CrossesLines kind depth → IsPiece kind text place depth (place + 1) depth
  opened : kind ≡ ZoneFile → IsByteAt text place 40 → IsPiece kind text place depth (place + 1) (depth + 1)
  closed : kind ≡ ZoneFile → 0 < depth → IsByteAt text place 41 → IsPiece kind text place depth (place + 1) (depth - 1)
  comment : {end : ℕ} → IsByteAt text place 59 → IsComment kind text (place + 1) end → IsPiece kind text place depth end depth

-- From a place within so many parentheses to a place within so many, nothing stands but such pieces.
pub data IsGap (kind : TextKind) (text : List ℕ) (place depth : ℕ) : ℕ → ℕ → Type 0 where
  nothing : IsGap kind text place depth place depth
  more : {middle middle_depth next next_depth : ℕ} → IsGap kind text place depth middle middle_depth → IsPiece kind text middle middle_depth next next_depth → IsGap kind text place depth next next_depth

-- No piece stands here.
abbrev pub IsGapEnd : TextKind → List ℕ → ℕ → ℕ → Type 0
IsGapEnd kind text place depth = (next next_depth : ℕ) → IsPiece kind text place depth next next_depth → ⊥

-- Bytes one behind the other, none of which ends them: each stands bare, or a backslash stands before it. A backslash
-- may be the last byte of the text.
pub data IsRun (ends : ℕ → Bool) (text : List ℕ) (start : ℕ) : ℕ → Type 0 where
  nothing : IsRun ends text start start
  bare : {place byte : ℕ} → IsRun ends text start place → IsByteAt text place byte → byte ≢ 92 → ends byte ≡ false → IsRun ends text start (place + 1)
  escaped : {place : ℕ} → IsRun ends text start place → IsByteAt text place 92 → IsRun ends text start (min (place + 2) (length text))

-- From a place on, bytes up to the first one that ends them, or to the end of the text.
pub record IsRunTo (ends : ℕ → Bool) (text : List ℕ) (start end : ℕ) : Type 0 where
  pub run : IsRun ends text start end
  pub last : end < length text → ends (get_or text end 0) ≡ true

-- the bytes of a text from a place to a place
abbrev pub cut_of : List ℕ → ℕ → ℕ → List ℕ
cut_of text start end = take (end - start) (drop start text)

-- A word in no quotes, which begins at a place of a text, and the place behind it.
pub record IsPlainWord (kind : TextKind) (text : List ℕ) (place : ℕ) (word : Word) (next : ℕ) : Type 0 where
  pub within : place < length text
  pub begins : ends_word kind (get_or text place 0) ≡ false
  pub run : IsRunTo (ends_word kind) text place next
  pub unquoted : word.quoted ≡ false
  pub start : word.start ≡ place
  pub bytes : word.bytes.now ≡ cut_of text place next

-- A word in quotes, the first of which stands at a place of a text, and the place behind it.
pub record IsQuotedWord (text : List ℕ) (place : ℕ) (word : Word) (next : ℕ) : Type 0 where
  pub end : ℕ
  pub opened : IsByteAt text place 34
  pub run : IsRunTo ends_quoted text (place + 1) end
  pub closed : IsByteAt text end 34
  pub behind : next ≡ end + 1
  pub quoted : word.quoted ≡ true
  pub start : word.start ≡ place + 1
  pub bytes : word.bytes.now ≡ cut_of text (place + 1) end

-- The next word of what is left, and the place behind it, within so many parentheses.
pub record IsWordFrom (left : WordsLeft) (word : Word) (next next_depth : ℕ) : Type 0 where
  pub first : ℕ
  pub gap : IsGap left.kind left.text left.place left.depth first next_depth
  pub is : IsPlainWord left.kind left.text first word next ⊎ IsQuotedWord left.text first word next

-- An entry ends at a line feed, or where the text ends, as a line does.
abbrev pub EndsAt : TextKind → List ℕ → ℕ → Type 0
EndsAt Line text end = end ≡ length text
EndsAt ZoneFile text end = end < length text → get_or text end 0 ≡ 10

-- From a place within so many parentheses on, no word is left up to this end.
pub record IsEndFrom (kind : TextKind) (text : List ℕ) (place depth end : ℕ) : Type 0 where
  pub gap : IsGap kind text place depth end 0
  pub within : end ≤ length text
  pub last : EndsAt kind text end

-- the next word, or the end where none is left
abbrev pub IsNext : WordsLeft → Option Word → ℕ → ℕ → Type 0
IsNext left (Some word) next next_depth = IsWordFrom left word next next_depth
IsNext left None next next_depth = IsEndFrom left.kind left.text left.place left.depth next × (next_depth ≡ 0)

-- Neither a word nor an end stands next.
abbrev pub HasNoNext : WordsLeft → Type 0
HasNoNext left = (found : Option Word) (next next_depth : ℕ) → IsNext left found next next_depth → ⊥

-- No word stands next, and no end does.
abbrev pub HasNoWord : WordsLeft → Type 0
HasNoWord left = (word : Word) (next next_depth : ℕ) → IsWordFrom left word next next_depth → ⊥

abbrev pub HasNoEnd : TextKind → List ℕ → ℕ → ℕ → Type 0
HasNoEnd kind text place depth = (end : ℕ) → IsEndFrom kind text place depth end → ⊥

-- words one behind the other, the first of what is left, up to a place within so many parentheses
pub data AreWords (left : WordsLeft) : List Word → ℕ → ℕ → Type 0 where
  none : AreWords left [] left.place left.depth
  more : {words : List Word} {middle middle_depth next next_depth : ℕ} {word : Word} → AreWords left words middle middle_depth → IsWordFrom (record left { place = middle; depth = middle_depth }) word next next_depth → AreWords left (words ++ word ∷ []) next next_depth

-- All words from a place within so many parentheses to the end of the line or the entry.
pub record AreWordsTo (kind : TextKind) (text : List ℕ) (place depth : ℕ) (words : List Word) (end : ℕ) : Type 0 where
  pub next : ℕ
  pub next_depth : ℕ
  pub front : AreWords (words_left kind text place depth) words next next_depth
  pub last : IsEndFrom kind text next next_depth end

-- From a place on, no words stand to an end: a quote or a parenthesis is not closed, or a parenthesis closes none.
abbrev pub HasNoWords : TextKind → List ℕ → ℕ → ℕ → Type 0
HasNoWords kind text place depth = (words : List Word) (end : ℕ) → AreWordsTo kind text place depth words end → ⊥

-- the same word at the same place
pub record SameWord (a b : Word) : Type 0 where
  pub bytes : a.bytes.now ≡ b.bytes.now
  pub start : a.start ≡ b.start
  pub quoted : a.quoted ≡ b.quoted

-- the same words in the same order
abbrev pub AreSameWords : List Word → List Word → Type 0
AreSameWords [] [] = Unit {0}
AreSameWords (a ∷ words) (b ∷ others) = SameWord a b × AreSameWords words others
AreSameWords words others = ⊥

-- From a place on, words stand to an end in one way.
abbrev pub StandOnce : Type 0
StandOnce = (kind : TextKind) (text : List ℕ) (place depth end other : ℕ) (words others : List Word) → AreWordsTo kind text place depth words end → AreWordsTo kind text place depth others other → AreSameWords words others × (end ≡ other)
