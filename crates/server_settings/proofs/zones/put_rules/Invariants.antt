use Rattle.std.proofs.Common.{drop, map}
use Rattle.server_settings.specs.Settings.{said, rule_texts}
use Rattle.server_settings.proofs.lemmas.Putting.{Leads}
use Rattle.toml.specs.View.{items_view}
use Rattle.server_settings.proofs.zones.put_rules.Given as goal

abbrev pub invariant-loop-item : goal.invariant-loop-item
invariant-loop-item l =
    Leads (rule_texts l.fn.zone (items_view (drop l.item-index l.item-items))) (rule_texts l.fn.zone (items_view l.item-items)) l.fn.option (map said l.fn.settings.items) (map said l.settings.items)
