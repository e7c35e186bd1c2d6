use Rattle.std.proofs.Common.{drop, map}
use Rattle.server_settings.specs.Settings.{said, zones_settings}
use Rattle.server_settings.proofs.lemmas.Putting.{SumsOn}
use Rattle.toml.specs.View.{items_view}
use Rattle.server_settings.proofs.zones.put_zones.Given as goal

abbrev pub invariant-loop-item : goal.invariant-loop-item
invariant-loop-item l =
    SumsOn (zones_settings (items_view (drop l.item-index l.item-items))) (zones_settings (items_view l.item-items)) (map said l.fn.settings.items) (map said l.settings.items)
