-- Entry by entry.
use Rattle.hickory_store.proofs.lemmas.updates.DataTypes.{one_type}
use Rattle.durable_updates.proofs.Sameness.{redone_once}
use Rattle.durable_updates.proofs.laws.redone_once.Goals as goal

pub returns-clause-records : goal.returns-clause-records
returns-clause-records c = λ entries base new other soa p q. (redone_once c.identities.ensures.records (one_type c.record_comparisons.ensures.rdata) entries base new other soa p q).0

pub returns-clause-soa : goal.returns-clause-soa
returns-clause-soa c = λ entries base new soa p. (redone_once c.identities.ensures.records (one_type c.record_comparisons.ensures.rdata) entries base new new soa p p).1
