use Rattle.hickory_store.proofs.lemmas.updates.DataTypes.{one_type}
use Rattle.hickory_store.proofs.lemmas.updates.ReplayedRuns.{replays}
use Rattle.hickory_store.proofs.updates.laws.updates_replay.Goals as goal

pub returns : goal.returns
returns g c = replays c.identities.ensures.records (one_type c.record_comparisons.ensures.rdata) g.V.Verifier
