use Rattle.std.proofs.Common.{◌≡◌, ◌++◌, ◌∷◌, [], ◌+◌, Some, map, string_bytes, get_or, drop, arith}
use Rattle.std.proofs.lemmas.Grind.{common_steps}
use Rattle.server_settings.specs.Settings.{said, text_of, texts_of_items, under}
use Rattle.server_settings.proofs.lemmas.Putting.{leads-on}
use Rattle.toml.specs.View.{view, items_view}
use Rattle.toml.proofs.Views.{items_view-drop}
use Rattle.server_settings.proofs.values.put_items.Goals as goal

pub loop-item-preserved : goal.loop-item-preserved
loop-item-preserved c =
    let xs = c.deref-item-items.result.now in
    let i = c.loop-item.item-index in
    let value = c.item-item.result in
    let name = c.args.name.now in
    let text = string_bytes c.in-Some.text in
    let at : get_or xs i value ≡ value = grind (arith, common_steps) in
    let gives : text_of (view value) ≡ Some text = grind (arith, common_steps) in
    let put : map said c.put_text.new.settings.items ≡ map said c.loop-item.settings.items ++ under name (text ∷ []) = grind (arith, common_steps) in
    leads-on (texts_of_items (items_view (drop (i + 1) xs))) (texts_of_items (items_view xs)) text name _ _ _ put
    (rw (items_view-drop xs i value c.loop-item-test.true, at, gives) at c.loop-item.invariant)
