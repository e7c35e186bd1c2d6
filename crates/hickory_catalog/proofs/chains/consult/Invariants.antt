use Rattle.hickory_base.specs.requests.Requests.{information_of}
use Rattle.hickory_catalog.proofs.lemmas.queries.ConsultedFromPlace.{ConsultedOn}
use Rattle.hickory_catalog.proofs.chains.consult.Given as goal

abbrev pub invariant-loop-i : goal.invariant-loop-i
invariant-loop-i g l = ConsultedOn g.H.ZoneHandler (information_of l.info) l.options l.handlers l.fn.given l.i l.given
