use Rattle.std.proofs.Common.{arith}
use Rattle.zone_check.proofs.Lookups.{one_more_owner}
use Rattle.zone_check.proofs.hashes.owners_of.Goals as goal

pub loop-place-preserved : goal.loop-place-preserved
loop-place-preserved c = record {
  within = omega arith;
  found = one_more_owner c.args.records.now c.loop-place.place c.index-records-place.result c.loop-place-test.true c.loop-place.invariant.within c.index-records-place.is c.loop-place.owners c.insert.new.self (rw c.in_ok-name.ensures at c.in_ok-insert.ensures.updates) c.loop-place.invariant.found;
}
