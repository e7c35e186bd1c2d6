use Rattle.hickory_catalog.proofs.lemmas.queries.ConsultedFromPlace.{behind_is, joined}
use Rattle.hickory_catalog.proofs.chains.consult_others.Goals as goal

pub returns-clause-consulted : goal.returns-clause-consulted
returns-clause-consulted g c =
    joined c.consult.ensures (rw (behind_is c.args.chain.now c.args.asked.now.place) at c.consult-2.ensures)
