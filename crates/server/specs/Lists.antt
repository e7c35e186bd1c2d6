-- The list of blocked names of a text.
use Rattle.std.specs.Prelude.{◌≡◌, ◌<◌, ℕ, List, Option, None, Some}
use Rattle.hickory_store.specs.blocklist.BlockAnswers.{Blocklist}
use Rattle.name_lists.specs.Counts.{Counts}
use Rattle.name_lists.specs.Adding.{AddsList}
use Rattle.served_zones.specs.ServedZones.{IsEmptyList}

-- The list has the names that the lines of the text give, of which there is one at least; these are the counts of its
-- lines.
abbrev pub IsListOfText : List ℕ → Counts → Option Blocklist → Type 0
IsListOfText text counts None = ⊥
IsListOfText text counts (Some list) = (empty : Blocklist) × IsEmptyList empty × AddsList text empty.entries list.entries counts × (0 < counts.taken)
    × (list.config ≡ empty.config)
