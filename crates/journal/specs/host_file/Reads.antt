-- What reading answers.
use Rattle.std.specs.Prelude.{◌≡◌, ◌+◌, ◌<◌, ◌≤◌, ℕ, List, length, take, drop, Result, MatchResult}
use Rattle.std.specs.declared.io.Error.{Error}

-- the bytes at a place, or that the file ends before them
abbrev pub IsRead : List ℕ → ℕ → List ℕ → Result (Unit {0}) Error → List ℕ → Type 0
IsRead file at old result new =
    MatchResult result (λ _. (at + length old ≤ length file) × (new ≡ take (length old) (drop at file))) (λ _. length file < at + length old)
