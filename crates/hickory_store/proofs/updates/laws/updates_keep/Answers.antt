use Rattle.hickory_store.proofs.lemmas.updates.DataTypes.{one_type}
use Rattle.hickory_store.proofs.lemmas.updates.KeptAtApex.{cname_kept, ns_kept, soa_kept}
use Rattle.hickory_store.proofs.updates.laws.updates_keep.Goals as goal

pub returns-clause-soa : goal.returns-clause-soa
returns-clause-soa g c = soa_kept c.identities.ensures.records (one_type c.record_comparisons.ensures.rdata) g.V.Verifier

pub returns-clause-ns : goal.returns-clause-ns
returns-clause-ns g c = ns_kept c.identities.ensures.records (one_type c.record_comparisons.ensures.rdata) g.V.Verifier

pub returns-clause-cname : goal.returns-clause-cname
returns-clause-cname g c = cname_kept c.identities.ensures.records (one_type c.record_comparisons.ensures.rdata) g.V.Verifier
