-- When what goes on is reported again.
use Rattle.std.specs.Prelude.{◌⊎◌, ◌+◌, ◌<◌, ◌≤◌, ⊤, ℕ, Option, None, Some}

-- It was not reported yet, or a minute has passed since, in seconds, or the clock was set back.
abbrev pub IsDue : Option ℕ → ℕ → Type 0
IsDue None now = ⊤
IsDue (Some last) now = (now < last) ⊎ (last + 60 ≤ now)
