-- What tells a journal's file from another.
use Rattle.std.specs.Prelude.{◌≡◌, ◌⊎◌, ◌≤◌, ℕ, Bool, IsTrue, List, ◌++◌, length, slice_index}
use Rattle.journal.specs.Frames.{IsSmall, frame}

-- The bytes begin with a whole frame.
abbrev pub BeginsWithEntry : List ℕ → Type 0
BeginsWithEntry bytes = (entry : List ℕ) × (rest : List ℕ) × IsSmall entry × (bytes ≡ frame entry ++ rest)

-- A journal's file at any moment, a crash at any point included: it has at most the byte that is the first to be
-- written, whatever a crash has made of it; or its first gate is closed by a 0, and what stands behind it counts for
-- nothing; or its first entry is whole.
abbrev pub IsJournal : List ℕ → Type 0
IsJournal file = (length file ≤ 1) ⊎ ((slice_index file 0 ≡ 0) ⊎ BeginsWithEntry file)

-- On each disk of a type a crash leaves each byte of a torn write old or new, below the old end of the file.
abbrev pub Mixes : {D : Type 0} → (D → Bool) → Type 0
Mixes {D} is_mixing = (disk : D) → IsTrue (is_mixing disk)
