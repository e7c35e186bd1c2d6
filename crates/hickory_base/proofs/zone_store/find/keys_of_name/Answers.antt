use Rattle.std.proofs.Common.{◌++◌, sym, ap, ◌∙◌}
use Rattle.std.specs.Map.{keys_of}
use Rattle.hickory_base.proofs.lemmas.zone_store.KeyOrder.{from_first_on, of_name, while_of}
use Rattle.hickory_base.proofs.lemmas.zone_store.SharedSets.{keys-of-name}
use Rattle.hickory_base.specs.zone_store.ZoneSets.{has_name}
use Rattle.hickory_base.proofs.zone_store.find.keys_of_name.Goals as goal

pub loop-key-init : goal.loop-key-init
loop-key-init c =
    let first = c.args.first.now in
    let entries = c.args.sets.now.entries in
    ap (λ items. items ++ keys_of (while_of (of_name first) c.into_iter-key-iterator.result)) c.new-keys.ensures.items
    ∙ ap (λ it. keys_of (while_of (of_name first) it)) c.into_iter-key-iterator.ensures.into_iter_gives
    ∙ ap keys_of (sym (from_first_on first entries c.range-key-items.result c.requires c.range-key-items.ensures.ordered (c.range-key-items.ensures.between tt)))
    ∙ sym (keys-of-name (has_name first.name) entries)
