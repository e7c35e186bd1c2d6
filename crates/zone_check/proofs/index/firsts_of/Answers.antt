use Rattle.std.proofs.Common.{arith}
use Rattle.zone_check.proofs.Lookups.{one_more_first}
use Rattle.zone_check.proofs.index.firsts_of.Goals as goal

pub loop-place-preserved : goal.loop-place-preserved
loop-place-preserved c = record {
  within = omega arith;
  found = one_more_first c.args.records.now c.loop-place.place c.index-records-place.result c.loop-place-test.true c.loop-place.invariant.within c.index-records-place.is c.loop-place.firsts c.insert.new.self (rw c.in_ok-key.ensures at c.in_ok-insert.ensures.updates) c.loop-place.invariant.found;
}
