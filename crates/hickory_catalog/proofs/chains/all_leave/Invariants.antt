use Rattle.std.proofs.Common.{◌≡◌, false}
use Rattle.hickory_base.specs.requests.Requests.{information_of}
use Rattle.hickory_catalog.specs.queries.Transcripts.{Given, wants_memory}
use Rattle.hickory_catalog.proofs.lemmas.queries.ConsultedFromPlace.{ConsultedOn}
use Rattle.hickory_catalog.proofs.chains.all_leave.Given as goal

abbrev pub invariant-loop-i : goal.invariant-loop-i
invariant-loop-i g l = (given : Given) → wants_memory given.0 ≡ false → ConsultedOn g.H.ZoneHandler (information_of l.info) l.options l.handlers given l.i given
