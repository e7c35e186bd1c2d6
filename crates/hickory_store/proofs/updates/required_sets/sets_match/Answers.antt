use Rattle.std.proofs.Common.{◌∙◌}
use Rattle.hickory_base.specs.zone_store.ZoneSets.{zone_records}
use Rattle.hickory_store.specs.updates.Prerequisites.{collected}
use Rattle.hickory_store.proofs.lemmas.updates.RecordByRecord.{matched_by_record}
use Rattle.hickory_store.proofs.updates.required_sets.sets_match.Goals as goal

pub returns : goal.returns
returns c = c.in_ok-matched.ensures ∙ matched_by_record (λ a b h. (c.identities.ensures.records a b).0 h) (zone_records c.args.zone.now.sets) (collected c.args.prerequisites.now)
