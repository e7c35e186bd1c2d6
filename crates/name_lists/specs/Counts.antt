-- What becomes of the lines of a list.
use Rattle.std.specs.Prelude.{◌≡◌, ℕ, ◌+◌, ◌<◌, ◌≤◌, ◌++◌, length, Bool, true, false, List, [], ◌∷◌, take, flat_map, count_by, Option, Some, None, is_none, unwrap_or}
use Rattle.wire_names.specs.rr.domain.DomainName.{DomainName}
use Rattle.name_lists.specs.Gives.{Gives}
use Rattle.name_lists.specs.Names.{plain_lines}
use Rattle.name_lists.specs.Words.{lines_of, without_mark}

-- The line gives these names, or is skipped since it gives no list of names.
abbrev pub BecomesOf : List ℕ → Option (List DomainName) → Type 0
BecomesOf line (Some names) = Gives line names
BecomesOf line None = (names : List DomainName) → ¬ (Gives line names)

-- Each line gives these names, or is skipped.
abbrev pub BecomeOf : List (List ℕ) → List (Option (List DomainName)) → Type 0
BecomeOf [] [] = Unit {0}
BecomeOf [] (outcome ∷ outcomes) = ⊥
BecomeOf (line ∷ lines) [] = ⊥
BecomeOf (line ∷ lines) (outcome ∷ outcomes) = BecomesOf line outcome × BecomeOf lines outcomes

-- all names that the lines give, in their order
abbrev pub given_names : List (Option (List DomainName)) → List DomainName
given_names outcomes = flat_map (λ outcome. unwrap_or outcome []) outcomes

abbrev pub is_taken : Option (List DomainName) → Bool
is_taken (Some (name ∷ names)) = true
is_taken _ = false

abbrev pub has_no_names : Option (List DomainName) → Bool
has_no_names (Some []) = true
has_no_names _ = false

-- the numbers of the lines that are skipped, where the first line has this number
abbrev pub skipped_numbers : ℕ → List (Option (List DomainName)) → List ℕ
skipped_numbers first [] = []
skipped_numbers first (None ∷ outcomes) = first ∷ skipped_numbers (first + 1) outcomes
skipped_numbers first (Some names ∷ outcomes) = skipped_numbers (first + 1) outcomes

-- How many lines give names, how many give none, how many are skipped, and the numbers of the first three of those,
-- counted from 1.
pub record Counts : Type 0 where
  pub taken : ℕ
  pub without_names : ℕ
  pub skipped : ℕ
  pub first_skipped : List ℕ

abbrev pub counts_of : List (Option (List DomainName)) → Counts
counts_of outcomes = record {
  taken = count_by is_taken outcomes;
  without_names = count_by has_no_names outcomes;
  skipped = count_by is_none outcomes;
  first_skipped = take 3 (skipped_numbers 1 outcomes);
}

-- how many lines were counted
abbrev pub lines_in : Counts → ℕ
lines_in counts = counts.taken + counts.without_names + counts.skipped

-- the counts with one line more, of which this became
abbrev pub counted : Counts → Option (List DomainName) → Counts
counted counts (Some []) = record counts { without_names = counts.without_names + 1 }
counted counts (Some (name ∷ names)) = record counts { taken = counts.taken + 1 }
counted counts None = record counts {
  skipped = counts.skipped + 1;
  first_skipped = take 3 (counts.first_skipped ++ (lines_in counts + 1) ∷ []);
}

-- A line was added to the plain lines of a text and to the counts.
pub record AddsLine (line text : List ℕ) (counts : Counts) (new_text : List ℕ) (new_counts : Counts) : Type 0 where
  pub outcome : Option (List DomainName)
  pub becomes : BecomesOf line outcome
  pub handed : new_text ≡ text ++ plain_lines (unwrap_or outcome [])
  pub counts_it : new_counts ≡ counted counts outcome

-- what becomes of the lines of a text, which may begin with a byte order mark
abbrev pub BecomesOfText : List ℕ → List (Option (List DomainName)) → Type 0
BecomesOfText text outcomes = BecomeOf (lines_of (without_mark text)) outcomes

-- The plain lines say the names that the lines of the text give, one each, in their order, and these are the counts.
pub record IsAdapted (text plain : List ℕ) (counts : Counts) : Type 0 where
  pub outcomes : List (Option (List DomainName))
  pub become : BecomesOfText text outcomes
  pub handed : plain ≡ plain_lines (given_names outcomes)
  pub counted : counts ≡ counts_of outcomes

-- So many bytes of those left were put into the front of a slice: all that are left, or as many as it takes.
pub record TakesLeft (old new : List ℕ) (count : ℕ) (buffer filled : List ℕ) : Type 0 where
  pub consumed : old ≡ take count filled ++ new
  pub len : length filled ≡ length buffer
  pub bound : count ≤ length filled
  pub none : count ≡ 0 → 0 < length filled → new ≡ []
