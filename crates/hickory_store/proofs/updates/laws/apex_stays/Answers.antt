-- SOA and NS stay, since data that are the same are of one type.
use Rattle.hickory_store.proofs.lemmas.updates.ApexNs.{ns_stays}
use Rattle.hickory_store.proofs.lemmas.updates.ApexSoa.{soa_stays}
use Rattle.hickory_store.proofs.lemmas.updates.DataTypes.{one_type}
use Rattle.hickory_store.proofs.updates.laws.apex_stays.Goals as goal

pub returns-clause-soa : goal.returns-clause-soa
returns-clause-soa c = soa_stays (one_type c.record_comparisons.ensures.rdata)

pub returns-clause-ns : goal.returns-clause-ns
returns-clause-ns c = ns_stays (one_type c.record_comparisons.ensures.rdata)
