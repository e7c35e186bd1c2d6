use Rattle.std.proofs.Common.{map}
use Rattle.server_settings.specs.Settings.{said, texts_of_members}
use Rattle.server_settings.proofs.lemmas.Putting.{Leads}
use Rattle.toml.specs.View.{members_view}
use Rattle.server_settings.proofs.values.put_members.Given as goal

abbrev pub invariant-loop-key : goal.invariant-loop-key
invariant-loop-key l =
    Leads (texts_of_members (members_view l.key-iterator)) (texts_of_members (members_view l.fn.members.entries)) l.fn.name (map said l.fn.settings.items) (map said l.settings.items)
