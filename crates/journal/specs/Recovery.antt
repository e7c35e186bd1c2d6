-- What recovery answers, and what it leaves on the disk.
use Rattle.std.specs.Prelude.{◌≡◌, ℕ, Bool, IsTrue, List, Result, IfOk, OnOk}
use Rattle.journal.specs.Frames.{StandsFor}
use Rattle.journal.specs.JournalFile.{IsJournal}
use Rattle.journal.specs.Read.{contents}
use Rattle.journal.specs.Settled.{IsAtRest}
use Rattle.journal.specs.declared.reading.Recovered.{Recovered}
use Rattle.journal.specs.declared.error.RecoverError.{RecoverError}

-- Nothing was written: the file is what it was, and a crash leaves no more than before.
pub record IsLeftAlone {D : Type 0} (seen : D → List ℕ) (may_leave : D → List ℕ → Type 0) (old new : D) : Type 0 where
  pub same : seen new ≡ seen old
  pub no_more : (c : List ℕ) → may_leave new c → may_leave old c

-- Where the disk told no lie, the file is a journal's, the entries are those that it stands for, and it is at rest with
-- them. A crash at any moment of the call leaves a file that stands for them, and is a journal's where it was one.
pub record Recovers {D : Type 0} (seen : D → List ℕ) (may_leave : D → List ℕ → Type 0) (is_clean : D → Bool) (old : D) (result : Result Recovered RecoverError) (new : D) : Type 0 where
  pub found : IfOk result (λ found. IsTrue (is_clean new) → StandsFor (seen old) (contents found.entries.items))
  pub settled : IfOk result (λ found. IsTrue (is_clean new) → IsAtRest seen may_leave new found.end (contents found.entries.items))
  pub crash : IsTrue (is_clean new) → (entries : List (List ℕ)) → StandsFor (seen old) entries → (c : List ℕ) → may_leave new c → StandsFor c entries
  pub journal : OnOk result (IsTrue (is_clean new) → IsJournal (seen old))
  pub journal_crash : IsTrue (is_clean new) → IsJournal (seen old) → (c : List ℕ) → may_leave new c → IsJournal c
