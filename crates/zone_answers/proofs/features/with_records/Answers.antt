use Rattle.std.proofs.Common.{subst, ◌∙◌}
use Rattle.std.proofs.lemmas.List.{get_or_default}
use Rattle.zone_answers.proofs.lemmas.zones.MoreFeatures.{covers_next, includes_via}
use Rattle.zone_answers.specs.representation.Features.{Covers}
use Rattle.zone_answers.proofs.features.with_records.Goals as goal

pub loop-i-preserved : goal.loop-i-preserved
loop-i-preserved c = (
  includes_via c.args.has c.loop-i.all c.with_record-all.result c.loop-i.invariant.0 c.with_record-all.ensures.includes,
  covers_next c.args.added.now c.loop-i.i c.loop-i.all c.with_record-all.result c.with_record-all.ensures.includes c.loop-i.invariant.1
      (λ d. subst (Covers c.with_record-all.result) (c.index-added-i.is ∙ get_or_default c.args.added.now c.loop-i.i c.index-added-i.result d c.loop-i-test.true) c.with_record-all.ensures.covers),
)
