use Rattle.std.proofs.Common.{◌∙◌, sym, arith}
use Rattle.zone_check.proofs.Lookups.{one_more_hash}
use Rattle.zone_check.proofs.hashes.hashes_of.Goals as goal

pub loop-place-preserved-in-Some : goal.loop-place-preserved-in-Some
loop-place-preserved-in-Some c = record {
  within = omega arith;
  found = one_more_hash c.args.records.now c.loop-place.place c.index-records-place.result c.loop-place-test.true c.loop-place.invariant.within c.index-records-place.is c.args.origin.now c.loop-place.hashes c.insert.new.self c.in-Some.hash (sym c.in-Some.is ∙ c.in_ok-hash.ensures) c.in_ok-insert.ensures.updates c.loop-place.invariant.found;
}
