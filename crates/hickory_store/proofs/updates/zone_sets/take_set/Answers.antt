-- The records that the map had under the key, taken out.
use Rattle.std.proofs.Common.{◌≡◌, sym, ap, ◌∙◌, Some, None}
use Rattle.std.proofs.lemmas.Result.{IfOk-weaker}
use Rattle.hickory_base.proofs.lemmas.zone_store.SharedSets.{lookup-is}
use Rattle.hickory_base.specs.zone_store.ZoneSets.{is_key, sets_of}
use Rattle.hickory_store.specs.representation.ZoneSets.{or_none, records_under}
use Rattle.hickory_store.proofs.lemmas.file.SetsOfRecords.{puts}
use Rattle.hickory_store.proofs.updates.zone_sets.take_set.Goals as goal

pub returns-in-None-clause-records : goal.returns-in-None-clause-records
returns-in-None-clause-records c =
    IfOk-weaker c.with_capacity.result _ (λ records. records.items ≡ records_under c.args.key.now (sets_of c.args.sets.now))
    (λ records h. h ∙ ap or_none (lookup-is (is_key c.args.key.now.name c.args.key.now.record_type) c.args.sets.now.entries None (sym c.in-None.is ∙ c.remove.ensures.value)))
    c.with_capacity.ensures.items

pub returns-in-None-clause-others : goal.returns-in-None-clause-others
returns-in-None-clause-others c = puts c.args.key.now None c.args.sets.now.entries c.remove.new.self.entries (λ k. c.remove.ensures.updates.0 k)

pub returns-in-Some-clause-records : goal.returns-in-Some-clause-records
returns-in-Some-clause-records c =
    IfOk-weaker c.unshared.result _ (λ records. records.items ≡ records_under c.args.key.now (sets_of c.args.sets.now))
    (λ records h. h ∙ ap or_none (lookup-is (is_key c.args.key.now.name c.args.key.now.record_type) c.args.sets.now.entries (Some c.in-Some.set) (sym c.in-Some.is ∙ c.remove.ensures.value)))
    c.unshared.ensures

pub returns-in-Some-clause-others : goal.returns-in-Some-clause-others
returns-in-Some-clause-others c = puts c.args.key.now None c.args.sets.now.entries c.remove.new.self.entries (λ k. c.remove.ensures.updates.0 k)
