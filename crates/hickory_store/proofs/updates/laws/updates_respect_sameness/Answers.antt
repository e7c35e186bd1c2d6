use Rattle.hickory_store.proofs.lemmas.updates.SameZones.{fold_same}
use Rattle.hickory_store.proofs.updates.laws.updates_respect_sameness.Goals as goal

pub returns : goal.returns
returns c = fold_same c.identities.ensures.records
