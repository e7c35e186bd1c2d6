-- What a sink has of the replies that were handed to it.
use Rattle.std.specs.Prelude.{◌≡◌, List, [], ◌∷◌, ◌++◌}

-- The list grew by one entry, and this holds of it.
pub record AddsEntry {Entry : Type 0} (holds : Entry → Type 0) (old new : List Entry) : Type 0 where
  pub entry : Entry
  pub is_held : holds entry
  pub grew : new ≡ old ++ entry ∷ []
