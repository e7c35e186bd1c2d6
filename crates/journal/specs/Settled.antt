-- States of a journal's file.
use Rattle.std.specs.Prelude.{◌≡◌, ◌≢◌, ℕ, List, [], ◌∷◌, ◌++◌, length}
use Rattle.std.specs.Int.{w32, to_be_bytes}
use Rattle.sqlite_disk.specs.Disk.{Only}
use Rattle.journal.specs.Frames.{frames, AreSmall, StandsFor}
use Rattle.journal.specs.JournalFile.{IsJournal}
use Rattle.journal.specs.JournalState.{JournalState}

-- A gate behind these entries that is not open; at the front of the file it is 0.
abbrev pub IsClosed : List (List ℕ) → ℕ → Type 0
IsClosed [] gate = gate ≡ 0
IsClosed (entry ∷ entries) gate = gate ≢ 1

module _ {D : Type 0} (seen : D → List ℕ) (may_leave : D → List ℕ → Type 0) where
  -- The file is the frames of these entries, and then, at this place, a gate that is closed. What stands behind it
  -- counts for nothing. All of it is on the disk.
  pub record IsAtRest (disk : D) (end : ℕ) (entries : List (List ℕ)) : Type 0 where
    pub gate : ℕ
    pub junk : List ℕ
    pub closed : IsClosed entries gate
    pub file : seen disk ≡ frames entries ++ gate ∷ junk
    pub place : end ≡ length (frames entries)
    pub small : AreSmall entries
    pub durable : Only (seen disk) (may_leave disk)

  -- The journal's file is so, up to its own closed gate.
  abbrev pub IsSettled : JournalState D → List (List ℕ) → Type 0
  IsSettled journal entries = IsAtRest journal.disk journal.end entries

  -- Each file that a crash may leave of such a journal stands for these entries.
  abbrev pub SettledEntriesStand : Type 0
  SettledEntriesStand = (journal : JournalState D) (entries : List (List ℕ)) → IsSettled journal entries → (c : List ℕ) → may_leave journal.disk c → StandsFor c entries

  -- Each of them is a journal's.
  abbrev pub SettledIsJournal : Type 0
  SettledIsJournal = (journal : JournalState D) (entries : List (List ℕ)) → IsSettled journal entries → (c : List ℕ) → may_leave journal.disk c → IsJournal c

-- the first of some entries with its length, the frames of the others, and a closed gate, 0
abbrev pub behind_gate : List ℕ → List (List ℕ) → List ℕ
behind_gate first others = (to_be_bytes w32 (length first) ++ first) ++ frames others ++ 0 ∷ []

module _ {D : Type 0} (seen : D → List ℕ) (may_leave : D → List ℕ → Type 0) where
  -- a journal at rest, with more entries behind the closed gate
  pub record IsStaged (disk : D) (end : ℕ) (entries : List (List ℕ)) (first : List ℕ) (others : List (List ℕ)) : Type 0 where
    pub gate : ℕ
    pub junk : List ℕ
    pub closed : IsClosed entries gate
    pub file : seen disk ≡ frames entries ++ gate ∷ (behind_gate first others ++ junk)
    pub place : end ≡ length (frames entries)
    pub small : AreSmall entries
    pub durable : Only (seen disk) (may_leave disk)

  -- these entries behind the open gate
  pub record IsOpened (disk : D) (entries : List (List ℕ)) (first : List ℕ) (others : List (List ℕ)) : Type 0 where
    pub junk : List ℕ
    pub file : seen disk ≡ frames entries ++ 1 ∷ (behind_gate first others ++ junk)
    pub durable : Only (seen disk) (may_leave disk)
