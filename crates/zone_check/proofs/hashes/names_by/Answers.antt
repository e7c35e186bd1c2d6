use Rattle.std.proofs.Common.{arith}
use Rattle.zone_check.proofs.NameHashes.{one_more_at}
use Rattle.zone_denials.specs.Nsec3Data.{hashing_by}
use Rattle.zone_check.proofs.hashes.names_by.Goals as goal

pub loop-place-preserved : goal.loop-place-preserved
loop-place-preserved c = record {
  within = omega arith;
  found = one_more_at c.args.zone.now.origin.now (hashing_by c.args.by.now) c.args.zone.now.records.now c.loop-place.place c.loop-place.names c.put_names_by.new.names c.loop-place-test.true c.loop-place.invariant.within c.loop-place.invariant.found c.in_ok-put_names_by.ensures;
}
