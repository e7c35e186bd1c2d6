-- What reading the words of a line does to the plain lines that were written for it.
use Rattle.std.specs.Prelude.{◌≡◌, ℕ, Bool, true, false, List, ◌++◌, Option, Some, None, String, string_bytes}
use Rattle.std.specs.declared.alloc.Global.{Global}
use Rattle.wire_names.specs.rr.domain.DomainName.{DomainName}
use Rattle.name_lists.specs.Gives.{Gives}
use Rattle.name_lists.specs.Names.{plain_lines}

-- Where there are names of this kind, their lines are behind the old ones; where not, anything may be.
abbrev pub Pushes : (List DomainName → Type 0) → Bool → List ℕ → List ℕ → Type 0
Pushes IsGiven true old new = (names : List DomainName) × IsGiven names × (new ≡ old ++ plain_lines names)
Pushes IsGiven false old new = (names : List DomainName) → ¬ (IsGiven names)

-- the plain lines of the names that a line gives, or nothing where it gives no list of names
abbrev pub PushesLine : List ℕ → Option (String Global) → Type 0
PushesLine line None = (names : List DomainName) → ¬ (Gives line names)
PushesLine line (Some text) = (names : List DomainName) × Gives line names × (string_bytes text ≡ plain_lines names)
