-- What adding a list, as people have it, does to a list of blocked names.
use Rattle.std.specs.Prelude.{◌≡◌, ◌↔◌, ◌⊎◌, ℕ, List, Option}
use Rattle.wire_names.specs.rr.domain.DomainName.{DomainName}
use Rattle.hickory_store.specs.blocklist.Entries.{HasEntry}
use Rattle.name_lists.specs.Counts.{BecomesOfText, Counts, counts_of, given_names}

-- the name is one of those that the lines of the text give, letter case aside
abbrev pub IsGiven : List ℕ → DomainName → Type 0
IsGiven text name = (outcomes : List (Option (List DomainName))) × BecomesOfText text outcomes × HasEntry (given_names outcomes) name

-- The entries are the old ones and the names that the lines of the text give, and these are the counts of its lines.
pub record AddsList (text : List ℕ) (old new : List DomainName) (counts : Counts) : Type 0 where
  pub outcomes : List (Option (List DomainName))
  pub become : BecomesOfText text outcomes
  pub adds : (name : DomainName) → HasEntry new name ↔ (HasEntry old name ⊎ HasEntry (given_names outcomes) name)
  pub counted : counts ≡ counts_of outcomes

-- The old entries are kept, and any new one is a name that a line of the text gives.
pub record AddsSome (text : List ℕ) (old new : List DomainName) : Type 0 where
  pub kept : (name : DomainName) → HasEntry old name → HasEntry new name
  pub only : (name : DomainName) → HasEntry new name → HasEntry old name ⊎ IsGiven text name
