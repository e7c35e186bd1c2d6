use Rattle.std.proofs.Common.{sym, ap, ◌∙◌}
use Rattle.hickory_base.proofs.lemmas.zone_store.KeyOrder.{in_use_by_first, first_is, of_name}
use Rattle.hickory_base.proofs.lemmas.zone_store.SharedSets.{any-shared}
use Rattle.hickory_base.specs.zone_store.ZoneSets.{has_name}
use Rattle.hickory_base.proofs.zone_store.find.is_in_use.Goals as goal

pub returns-in-Some : goal.returns-in-Some
returns-in-Some c =
    c.eq.ensures ∙ ap (first_is (of_name c.args.first.now)) (sym c.in-Some.ensures.steps)
    ∙ in_use_by_first c.args.first.now c.args.sets.now.entries c.range.result c.requires c.range.ensures.ordered (c.range.ensures.between tt)
    ∙ sym (any-shared (has_name c.args.first.now.name) c.args.sets.now.entries)

pub returns-in-None : goal.returns-in-None
returns-in-None c =
    ap (first_is (of_name c.args.first.now)) (sym c.in-None.ensures.steps.0)
    ∙ in_use_by_first c.args.first.now c.args.sets.now.entries c.range.result c.requires c.range.ensures.ordered (c.range.ensures.between tt)
    ∙ sym (any-shared (has_name c.args.first.now.name) c.args.sets.now.entries)
