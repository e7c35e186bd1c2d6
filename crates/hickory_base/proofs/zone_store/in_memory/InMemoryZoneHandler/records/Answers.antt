use Rattle.hickory_base.proofs.lemmas.zone_store.DistinctRecords.{zone_distinct}
use Rattle.hickory_base.proofs.zone_store.in_memory.InMemoryZoneHandler.records.Goals as goal

pub returns-clause-distinct : goal.returns-clause-distinct
returns-clause-distinct c = rw (← c.self.view_is) (zone_distinct _ c.self.invariant.2 c.self.invariant.1)
