use Rattle.std.proofs.Common.{◌≡◌, None}
use Rattle.hickory_catalog.proofs.lemmas.queries.ChainsFromPlace.{AskedOn}
use Rattle.hickory_catalog.proofs.chains.ask.Given as goal

abbrev pub invariant-loop-place : goal.invariant-loop-place
invariant-loop-place g l = record {
  on : AskedOn g.H.ZoneHandler l.request l.options l.chain l.place;
  unsigned : l.answer.given.1 ≡ None;
}
