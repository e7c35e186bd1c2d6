-- Life by life.
use Rattle.hickory_store.proofs.lemmas.updates.DataTypes.{one_type}
use Rattle.durable_updates.proofs.CompactedRuns.{compacted_runs_are_kept}
use Rattle.durable_updates.proofs.laws.compacted_runs_are_kept.Goals as goal

pub returns : goal.returns
returns g c = λ most some base lives at soa run.
    compacted_runs_are_kept c.identities.ensures.records (one_type c.record_comparisons.ensures.rdata) g.V.Verifier g.D.Disk base soa most some lives at run
