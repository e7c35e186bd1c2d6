-- The old file or the new one.
use Rattle.hickory_store.proofs.lemmas.updates.DataTypes.{one_type}
use Rattle.durable_updates.proofs.Compactions.{compaction_is_kept}
use Rattle.durable_updates.proofs.laws.compaction_is_kept.Goals as goal

pub returns : goal.returns
returns g c = compaction_is_kept c.identities.ensures.records (one_type c.record_comparisons.ensures.rdata) g.D.Disk
