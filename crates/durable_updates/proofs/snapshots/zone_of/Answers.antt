-- The zone of the records.
use Rattle.std.proofs.Common.{◌∙◌}
use Rattle.hickory_store.proofs.lemmas.updates.DataTypes.{one_type}
use Rattle.durable_updates.proofs.Recalled.{lowered, made_same, made_soa}
use Rattle.durable_updates.proofs.snapshots.zone_of.Goals as goal

pub returns-in-Ok-clause-same : goal.returns-in-Ok-clause-same
returns-in-Ok-clause-same g c =
    made_same c.identities.ensures.records (one_type c.record_comparisons.ensures.rdata) c.args.records.items c.in-Ok.made.sets c.records.ensures.zone c.records.ensures.ordered c.in-Ok.ensures.zone.sets

pub returns-in-Ok-clause-soa : goal.returns-in-Ok-clause-soa
returns-in-Ok-clause-soa g c =
    made_soa c.identities.ensures.records (one_type c.record_comparisons.ensures.rdata) c.args.zone.now.zone.origin c.as_name-apex.result.now c.args.records.items c.in-Ok.made.sets
    (lowered c.as_name-apex.result.now c.origin.result.now c.as_name-apex.ensures.name c.as_name-apex.ensures.lower ∙ c.origin.ensures)
    c.records.ensures.zone c.records.ensures.ordered c.in-Ok.ensures.zone.sets c.in-Ok.ensures.zone.one_soa
