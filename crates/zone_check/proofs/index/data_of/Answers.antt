use Rattle.std.proofs.Common.{◌≡◌, true, false, arith}
use Rattle.wire_messages.specs.rr.RecordData.{type_of}
use Rattle.zone_check.specs.CheckedZones.{is_data_type}
use Rattle.zone_check.proofs.Lookups.{no_data_more, one_more_data}
use Rattle.zone_check.proofs.index.data_of.Goals as goal

pub loop-place-preserved-then-is_data_type : goal.loop-place-preserved-then-is_data_type
loop-place-preserved-then-is_data_type c =
    let is_data : is_data_type (type_of c.index-records-place.result.rdata) ≡ true = cc in
    record {
      within = omega arith;
      found = one_more_data c.args.records.now c.loop-place.place c.index-records-place.result c.loop-place-test.true c.loop-place.invariant.within c.index-records-place.is c.loop-place.others c.insert.new.self is_data (rw c.in_ok-name.ensures at c.in_ok-insert.ensures.updates) c.loop-place.invariant.found;
    }

pub loop-place-preserved : goal.loop-place-preserved
loop-place-preserved c =
    let no_data : is_data_type (type_of c.index-records-place.result.rdata) ≡ false = cc in
    record {
      within = omega arith;
      found = no_data_more c.args.records.now c.loop-place.place c.index-records-place.result c.loop-place-test.true c.loop-place.invariant.within c.index-records-place.is c.loop-place.others no_data c.loop-place.invariant.found;
    }
