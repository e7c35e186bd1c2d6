-- What a call of a disk answers, and what it leaves.
use Rattle.std.specs.Prelude.{◌≡◌, ◌⊎◌, Result, MatchResult}
use Rattle.std.specs.declared.io.Error.{Error}
use Rattle.journal.specs.host_file.FileState.{FileState, test_failed}

-- It is done, or memory was refused.
abbrev pub Answers : (FileState → FileState) → (FileState → FileState) → FileState → Result (Unit {0}) Error → FileState → Type 0
Answers change refusal old result new = MatchResult result (λ _. new ≡ change old) (λ _. new ≡ refusal old)

-- It changes nothing but a count.
abbrev pub Tested : FileState → Result (Unit {0}) Error → FileState → Type 0
Tested old result new = MatchResult result (λ _. new ≡ old) (λ _. (new ≡ old) ⊎ (new ≡ test_failed old))
