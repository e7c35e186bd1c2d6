use Rattle.std.proofs.Common.{◌≡◌, ◌+◌, get_or, drop, arith}
use Rattle.std.proofs.lemmas.Grind.{common_steps}
use Rattle.server_settings.specs.Settings.{rule_text, rule_texts}
use Rattle.server_settings.proofs.lemmas.Putting.{leads-step}
use Rattle.toml.specs.View.{view, items_view}
use Rattle.toml.proofs.Views.{items_view-drop}
use Rattle.server_settings.proofs.zones.put_rules.Goals as goal

pub loop-item-preserved : goal.loop-item-preserved
loop-item-preserved c =
    let xs = c.deref-item-items.result.now in
    let i = c.loop-item.item-index in
    let value = c.item-item.result in
    let at : get_or xs i value ≡ value = grind (arith, common_steps) in
    leads-step (rule_text c.args.zone.now (view value)) (rule_texts c.args.zone.now (items_view (drop (i + 1) xs))) (rule_texts c.args.zone.now (items_view xs)) c.args.option.now _ _ _ _ c.if-not-branch.false c.in_ok-put_rule.ensures
    (rw (items_view-drop xs i value c.loop-item-test.true, at) at c.loop-item.invariant)
