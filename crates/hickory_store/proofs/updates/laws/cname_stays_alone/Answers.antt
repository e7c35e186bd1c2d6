use Rattle.hickory_store.proofs.lemmas.updates.CnameAlone.{cname_stays}
use Rattle.hickory_store.proofs.updates.laws.cname_stays_alone.Goals as goal

pub returns : goal.returns
returns c = cname_stays
