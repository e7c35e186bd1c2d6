use Rattle.std.proofs.Common.{◌≡◌, ◌++◌, ◌+◌, Some, codes, string_bytes, get_or, drop, arith}
use Rattle.std.proofs.lemmas.Grind.{common_steps}
use Rattle.server_settings.specs.Settings.{text_of, words_of}
use Rattle.server_settings.proofs.lemmas.Putting.{words-on}
use Rattle.toml.specs.View.{view, items_view}
use Rattle.toml.proofs.Views.{items_view-drop}
use Rattle.server_settings.proofs.zones.put_words.Goals as goal

pub loop-item-preserved : goal.loop-item-preserved
loop-item-preserved c =
    let xs = c.deref-item-items.result.now in
    let i = c.loop-item.item-index in
    let value = c.item-item.result in
    let word = string_bytes c.in-Some.word in
    let at : get_or xs i value ≡ value = grind (arith, common_steps) in
    let gives : text_of (view value) ≡ Some word = grind (arith, common_steps) in
    let put : string_bytes c.put_word.new.made ≡ string_bytes c.loop-item.made ++ (codes " " ++ word) = grind (arith, common_steps) in
    words-on (words_of (items_view (drop (i + 1) xs))) (words_of (items_view xs)) word _ _ _ put
    (rw (items_view-drop xs i value c.loop-item-test.true, at, gives) at c.loop-item.invariant)
