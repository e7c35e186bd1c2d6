-- What calls of a disk make of a file.
use Rattle.std.specs.Prelude.{ℕ, List}
use Rattle.journal.specs.host_file.FileState.{FileState, written, resized, synced, refused, sync_refused, test_failed}

-- One call that changes it is done, or memory is refused for it, or bytes that it read fail their test.
pub data IsStep (f : FileState) : FileState → Type 0 where
  writes : (at : ℕ) (bytes : List ℕ) → IsStep f (written at bytes f)
  resizes : (len : ℕ) → IsStep f (resized len f)
  syncs : IsStep f (synced f)
  is_refused : IsStep f (refused f)
  is_shut : IsStep f (sync_refused f)
  fails : IsStep f (test_failed f)

-- any calls, one after another
pub data IsReached (first : FileState) : FileState → Type 0 where
  at_first : IsReached first first
  by_step : {f g : FileState} → IsReached first f → IsStep f g → IsReached first g
