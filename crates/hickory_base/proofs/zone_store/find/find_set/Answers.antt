use Rattle.std.proofs.Common.{ap, ◌∙◌}
use Rattle.hickory_base.proofs.lemmas.zone_store.StoredSets.{walk_answers, walked}
use Rattle.hickory_base.specs.zone_store.ZoneAnswers.{no_name}
use Rattle.hickory_base.proofs.zone_store.find.find_set.Goals as goal

pub loop-key-init : goal.loop-key-init
loop-key-init c =
    let first = c.args.first.now in
    ap (walked first c.args.record_type no_name) c.into_iter-key-iterator.ensures.into_iter_gives
    ∙ walk_answers first c.args.record_type c.args.sets.now.entries c.range-key-items.result c.requires c.range-key-items.ensures.ordered (c.range-key-items.ensures.between tt)
