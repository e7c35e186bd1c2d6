use Rattle.std.proofs.Common.{ℕ, List, map}
use Rattle.server_settings.specs.Settings.{AreKnown, HasMember, said, settings_of}
use Rattle.server_settings.proofs.lemmas.Putting.{Sums}
use Rattle.toml.specs.Data.{Data}
use Rattle.toml.specs.View.{members_view}
use Rattle.server_settings.proofs.reading.settings_of.Given as goal

abbrev pub invariant-loop-name : goal.invariant-loop-name
invariant-loop-name l =
    Sums (settings_of (members_view l.name-iterator)) (settings_of (members_view l.fn.table.entries)) (map said l.settings.items)
    × (AreKnown l.fn.options (members_view l.name-iterator) → AreKnown l.fn.options (members_view l.fn.table.entries))
    × ((name : List ℕ) (d : Data) → HasMember name d (members_view l.name-iterator) → HasMember name d (members_view l.fn.table.entries))
