use Rattle.std.proofs.Common.{drop, string_bytes}
use Rattle.server_settings.specs.Settings.{words_of}
use Rattle.server_settings.proofs.lemmas.Putting.{Words}
use Rattle.toml.specs.View.{items_view}
use Rattle.server_settings.proofs.zones.put_words.Given as goal

abbrev pub invariant-loop-item : goal.invariant-loop-item
invariant-loop-item l =
    Words (words_of (items_view (drop l.item-index l.item-items))) (words_of (items_view l.item-items)) (string_bytes l.fn.made) (string_bytes l.made)
