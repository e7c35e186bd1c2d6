-- A copy of the map.
use Rattle.std.proofs.Common.{◌∙◌, ap}
use Rattle.hickory_base.specs.zone_store.ZoneAnswers.{MemoryZone}
use Rattle.durable_updates.proofs.Judging.{same_sets}
use Rattle.durable_updates.proofs.batches.copied_sets.Goals as goal

pub returns-in-Ok-clause-sets : goal.returns-in-Ok-clause-sets
returns-in-Ok-clause-sets g c = same_sets c.records.result.now.entries c.in-Ok.sets.entries c.in-Ok.ensures.cases ∙ c.records.ensures.sets ∙ ap (λ (z : MemoryZone). z.sets) c.in_memory.ensures
