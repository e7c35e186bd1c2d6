use Rattle.std.proofs.Common.{◌≡◌, ◌==◌, true, false, arith}
use Rattle.wire_messages.specs.rr.RecordData.{type_of}
use Rattle.zone_check.proofs.Lookups.{no_nsec_more, one_more_nsec}
use Rattle.zone_check.proofs.index.nsecs_of.Goals as goal

pub loop-place-preserved-then-is_nsec : goal.loop-place-preserved-then-is_nsec
loop-place-preserved-then-is_nsec c =
    let typed : (type_of c.index-records-place.result.rdata == 47) ≡ true = cc in
    record {
      within = omega arith;
      found = one_more_nsec c.args.records.now c.loop-place.place c.index-records-place.result c.loop-place-test.true c.loop-place.invariant.within c.index-records-place.is c.loop-place.nsecs c.insert.new.self typed (rw c.in_ok-name.ensures at c.in_ok-insert.ensures.updates) c.loop-place.invariant.found;
    }

pub loop-place-preserved : goal.loop-place-preserved
loop-place-preserved c =
    let typed : (type_of c.index-records-place.result.rdata == 47) ≡ false = cc in
    record {
      within = omega arith;
      found = no_nsec_more c.args.records.now c.loop-place.place c.index-records-place.result c.loop-place-test.true c.loop-place.invariant.within c.index-records-place.is c.loop-place.nsecs typed c.loop-place.invariant.found;
    }
