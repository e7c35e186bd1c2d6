use Rattle.served_zones.proofs.RuledZones.{is_fresh}
use Rattle.served_zones.proofs.chains.put_chain.Goals as goal

pub returns-in-Ok-clause-put : goal.returns-in-Ok-clause-put
returns-in-Ok-clause-put g c = (_, rw c.in_ok-name.ensures at c.in-Ok.ensures.changed, is_fresh _ c.in-Ok.old c.is_none.result c.is_none.ensures)
