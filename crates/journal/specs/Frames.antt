-- What a journal's file stands for.
use Rattle.std.specs.Prelude.{◌≡◌, ◌⊎◌, ℕ, ◌<◌, ◌≤◌, ◌^◌, List, [], ◌∷◌, ◌++◌, length}
use Rattle.std.specs.Int.{w32, to_be_bytes}

-- A frame: an open gate, 1, the length of the entry in four bytes, and the entry.
abbrev pub frame : List ℕ → List ℕ
frame entry = 1 ∷ (to_be_bytes w32 (length entry) ++ entry)

abbrev pub frames : List (List ℕ) → List ℕ
frames [] = []
frames (entry ∷ entries) = frame entry ++ frames entries

-- an entry's length fits its frame
abbrev pub IsSmall : List ℕ → Type 0
IsSmall entry = length entry < 2 ^ 32

abbrev pub AreSmall : List (List ℕ) → Type 0
AreSmall [] = Unit {0}
AreSmall (entry ∷ entries) = IsSmall entry × AreSmall entries

-- An entry is too long for its frame, or all together are for a file.
abbrev pub AreTooLong : List (List ℕ) → Type 0
AreTooLong entries = AreSmall entries → 2 ^ 60 ≤ length (frames entries)

-- The bytes begin with no whole frame.
abbrev pub IsEnd : List ℕ → Type 0
IsEnd bytes = (entry rest : List ℕ) → IsSmall entry → bytes ≡ frame entry ++ rest → ⊥

-- The file stands for these entries: those of its frames up to the first that is closed or not whole.
pub data StandsFor : List ℕ → List (List ℕ) → Type 0 where
  ended : {bytes : List ℕ} → IsEnd bytes → StandsFor bytes []
  framed : {entry rest bytes : List ℕ} {entries : List (List ℕ)} → IsSmall entry → bytes ≡ frame entry ++ rest → StandsFor rest entries → StandsFor bytes (entry ∷ entries)

-- It stands for the entries from before, with all of the new ones or with none.
abbrev pub IsBeforeOrAfter : List (List ℕ) → List (List ℕ) → List ℕ → Type 0
IsBeforeOrAfter entries added file = StandsFor file entries ⊎ StandsFor file (entries ++ added)
