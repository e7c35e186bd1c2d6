-- The lines of a text, and the words of a line.
use Rattle.std.specs.Prelude.{ℕ, Bool, not, ◌==◌, ◌||◌, nat_eq, List, [], ◌∷◌, length, drop, filter, slice_index, take_while, if◌then◌else◌}
use Rattle.std.specs.List.{slice_split, before_first, starts_with}

-- a line feed, which ends a line
abbrev pub is_line_feed : ℕ → Bool
is_line_feed b = b == 10

-- a space, a tab or a carriage return: what parts words, and may stand before and behind them
abbrev pub is_blank : ℕ → Bool
is_blank b = (b == 32) || (b == 9) || (b == 13)

-- a semicolon, which begins a comment wherever it stands (RFC 1035, section 5.1)
abbrev pub is_semicolon : ℕ → Bool
is_semicolon b = b == 59

-- the text without the byte order mark at its front, if it has one (RFC 3629, section 6)
abbrev pub without_mark : List ℕ → List ℕ
without_mark text = if starts_with nat_eq text (0xEF ∷ 0xBB ∷ 0xBF ∷ []) then drop 3 text else text

-- the parts but for the last, where that is empty
abbrev pub without_empty_end : List (List ℕ) → List (List ℕ)
without_empty_end [] = []
without_empty_end (part ∷ []) = if length part == 0 then [] else part ∷ []
without_empty_end (part ∷ next ∷ parts) = part ∷ without_empty_end (next ∷ parts)

-- the lines of a text: what a line feed ends, and what stands behind the last one, if anything does
abbrev pub lines_of : List ℕ → List (List ℕ)
lines_of text = without_empty_end (slice_split is_line_feed text)

abbrev pub is_some_word : List ℕ → Bool
is_some_word part = not (length part == 0)

-- the longest parts of a text without blanks
abbrev pub words : List ℕ → List (List ℕ)
words text = filter is_some_word (slice_split is_blank text)

-- the word begins with `#` or `!`: it begins a comment, to the end of its line
abbrev pub begins_comment : List ℕ → Bool
begins_comment word = (slice_index word 0 == 35) || (slice_index word 0 == 33)

-- the words before a comment
abbrev pub words_before_comment : List ℕ → List (List ℕ)
words_before_comment text = take_while (λ word. not (begins_comment word)) (words text)

-- the words of a line, its comment left out
abbrev pub words_of_line : List ℕ → List (List ℕ)
words_of_line line = words_before_comment (before_first is_semicolon line)
