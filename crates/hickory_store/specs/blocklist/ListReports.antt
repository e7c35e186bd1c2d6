-- What a line of a list says, and what the lines of a list come to.
use Rattle.std.specs.Prelude.{◌≡◌, ◌≢◌, ℕ, ◌+◌, ◌-◌, ◌^◌, min, Bool, true, false, List, [], ◌∷◌, length, take, map}
use Rattle.std.specs.List.{AllZip, count_by}
use Rattle.std.specs.Str.{trim}
use Rattle.std.specs.Str.Lines.{lines}
use Rattle.wire_names.specs.rr.domain.DomainName.{DomainName}
use Rattle.hickory_store.specs.blocklist.ListLines.{Lists, entry_of}
use Rattle.hickory_store.specs.declared.blocklist.lines.ListLine.{ListLine}
use Rattle.hickory_store.specs.declared.blocklist.lines.ListLine.TheVariants.{Name, Nothing, Skipped}
use Rattle.hickory_store.specs.declared.blocklist.report.ListReport.{ListReport}

-- What a line says: it lists a name; or it lists none, and nothing but white space stands on it or before its comment;
-- or it lists none, though something stands there.
abbrev pub IsLine : List ℕ → ListLine → Type 0
IsLine line Name = (name : DomainName) × Lists line name
IsLine line Nothing = ((name : DomainName) → ¬ (Lists line name)) × (trim (entry_of line) ≡ [])
IsLine line Skipped = ((name : DomainName) → ¬ (Lists line name)) × (trim (entry_of line) ≢ [])

-- a number as 64 bits tell it: the greatest that they hold stands for all above it
abbrev pub told : ℕ → ℕ
told n = min n (2 ^ 64 - 1)

abbrev pub is_name : ListLine → Bool
is_name Name = true
is_name Nothing = false
is_name Skipped = false

-- the numbers of the lines that are skipped, where the first line has this number
abbrev pub skipped_from : ℕ → List ListLine → List ℕ
skipped_from n [] = []
skipped_from n (Skipped ∷ lines) = n ∷ skipped_from (n + 1) lines
skipped_from n (Name ∷ lines) = skipped_from (n + 1) lines
skipped_from n (Nothing ∷ lines) = skipped_from (n + 1) lines

-- The report says how many of the lines there are, how many list a name, how many are skipped, and which three of these
-- come first.
pub record IsReport (lines : List ListLine) (report : ListReport) : Type 0 where
  pub all : report.lines ≡ told (length lines)
  pub taken : report.taken ≡ told (count_by is_name lines)
  pub skipped : report.skipped ≡ told (length (skipped_from 1 lines))
  pub first : report.first_skipped.items ≡ map told (take 3 (skipped_from 1 lines))

-- the report of the lines of a text
abbrev pub ReportsText : List ℕ → ListReport → Type 0
ReportsText text report = (said : List ListLine) × AllZip IsLine (lines text) said × IsReport said report
