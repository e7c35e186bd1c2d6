use Rattle.hickory_store.proofs.lemmas.updates.RecordTurns.{records_stand_after}
use Rattle.hickory_store.proofs.updates.laws.records_stand_after.Goals as goal

pub returns : goal.returns
returns c = records_stand_after c.identities.ensures.records
