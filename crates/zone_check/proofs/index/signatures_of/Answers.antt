use Rattle.std.proofs.Common.{sym, arith}
use Rattle.zone_check.proofs.Lookups.{one_more_signature}
use Rattle.zone_check.proofs.index.signatures_of.Goals as goal

pub loop-place-preserved-in-Some : goal.loop-place-preserved-in-Some
loop-place-preserved-in-Some c = record {
  within = omega arith;
  found = one_more_signature c.args.records.now c.loop-place.place c.index-records-place.result c.loop-place-test.true c.loop-place.invariant.within c.index-records-place.is c.loop-place.signatures c.insert.new.self c.in-Some.covered (sym c.in-Some.ensures) (rw c.in_ok-key.ensures at c.in_ok-insert.ensures.updates) c.loop-place.invariant.found;
}
