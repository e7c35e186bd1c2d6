use Rattle.std.proofs.Common.{sym, arith}
use Rattle.zone_check.proofs.Lookups.{one_more_server}
use Rattle.zone_check.proofs.index.servers_of.Goals as goal

pub loop-place-preserved-in-Some : goal.loop-place-preserved-in-Some
loop-place-preserved-in-Some c = record {
  within = omega arith;
  found = one_more_server c.args.records.now c.loop-place.place c.index-records-place.result c.loop-place-test.true c.loop-place.invariant.within c.index-records-place.is c.loop-place.servers c.insert.new.self c.in-Some.host.now (sym c.in-Some.ensures) (rw c.in_ok-name.ensures at c.in_ok-insert.ensures.updates) c.loop-place.invariant.found;
}
