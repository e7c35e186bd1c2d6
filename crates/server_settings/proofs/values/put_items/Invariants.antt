use Rattle.std.proofs.Common.{drop, map}
use Rattle.server_settings.specs.Settings.{said, texts_of_items}
use Rattle.server_settings.proofs.lemmas.Putting.{Leads}
use Rattle.toml.specs.View.{items_view}
use Rattle.server_settings.proofs.values.put_items.Given as goal

abbrev pub invariant-loop-item : goal.invariant-loop-item
invariant-loop-item l =
    Leads (texts_of_items (items_view (drop l.item-index l.item-items))) (texts_of_items (items_view l.item-items)) l.fn.name (map said l.fn.settings.items) (map said l.settings.items)
