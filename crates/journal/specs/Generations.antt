-- A journal in two files, of which the one with the higher generation counts.
use Rattle.std.specs.Prelude.{◌≡◌, ◌⊎◌, ◌<◌, ◌≤◌, ℕ, cond, nat_eq, List, [], ◌∷◌, length, take}
use Rattle.std.specs.Int.{from_be_bytes, to_be_bytes, w64}
use Rattle.journal.specs.Frames.{StandsFor}

-- the number that an entry of eight bytes is; 0 for every other
abbrev pub number_of : List ℕ → ℕ
number_of entry = cond (nat_eq (length entry) 8) (from_be_bytes w64 (take 8 entry)) 0

-- the generation of a file, by its entries: the number of the first; 0 where there is none
abbrev pub generation_of : List (List ℕ) → ℕ
generation_of [] = 0
generation_of (first ∷ entries) = number_of first

-- the entry that says it
abbrev pub header : ℕ → List ℕ
header generation = to_be_bytes w64 generation

-- A file whose entries are replaced stands for those from before, for none, or for all of the new ones.
abbrev pub IsBeingReplaced : List (List ℕ) → List (List ℕ) → List ℕ → Type 0
IsBeingReplaced old new file = StandsFor file old ⊎ (StandsFor file [] ⊎ StandsFor file new)

-- Two files stand for the entries of the one whose generation is higher, and of the first where both have one
-- generation.
abbrev pub StandFor : List ℕ → List ℕ → List (List ℕ) → Type 0
StandFor first second entries =
    (mine : List (List ℕ)) × (theirs : List (List ℕ)) × StandsFor first mine × StandsFor second theirs
    × (((generation_of theirs ≤ generation_of mine) × (entries ≡ mine)) ⊎ ((generation_of mine < generation_of theirs) × (entries ≡ theirs)))
