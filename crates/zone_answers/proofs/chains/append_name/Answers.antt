use Rattle.std.proofs.Common.{◌++◌, sym, ap, ◌∙◌}
use Rattle.std.specs.List.{flat_map}
use Rattle.hickory_base.proofs.lemmas.zone_store.KeyOrder.{from_first_on}
use Rattle.hickory_base.proofs.lemmas.zone_store.SharedSets.{records-shared}
use Rattle.hickory_base.specs.zone_store.ZoneSets.{has_name}
use Rattle.zone_answers.proofs.lemmas.zones.Every.{all_in_front}
use Rattle.zone_answers.proofs.chains.append_name.Goals as goal

pub loop-key-init : goal.loop-key-init
loop-key-init c =
    let first = c.args.first.now in
    let entries = c.args.sets.now.entries in
    ap (λ rs. c.args.all.now.items ++ rs)
    (ap (all_in_front first) c.into_iter-key-iterator.ensures.into_iter_gives
    ∙ ap (flat_map (λ e. e.1.value)) (sym (from_first_on first entries c.range-key-items.result c.requires c.range-key-items.ensures.ordered (c.range-key-items.ensures.between tt)))
    ∙ sym (records-shared (has_name first.name) entries))
