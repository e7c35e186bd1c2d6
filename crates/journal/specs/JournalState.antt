-- What a contract sees of a journal.
use Rattle.std.specs.Prelude.{◌≡◌, ◌⊎◌, ◌≤◌, ◌^◌, ℕ, Bool, false}

-- its file, the place of its closed gate, and whether it takes entries
pub record JournalState (D : Type 0) : Type 0 where
  pub disk : D
  pub end : ℕ
  pub is_open : Bool

-- It takes no entry: it was shut, or its file is too long, or a sync of the file has failed.
abbrev pub IsShut : {D : Type 0} → (D → Bool) → JournalState D → Type 0
IsShut is_usable journal = (journal.is_open ≡ false) ⊎ ((2 ^ 60 ≤ journal.end) ⊎ (is_usable journal.disk ≡ false))
