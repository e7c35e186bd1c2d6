use Rattle.std.proofs.Common.{◌≡◌, true, false, arith}
use Rattle.zone_check.specs.CheckedZones.{is_wild_address}
use Rattle.zone_check.proofs.Lookups.{no_wild_more, one_more_wild}
use Rattle.zone_check.proofs.index.wilds_of.Goals as goal

pub loop-place-preserved-then-is_wild_address : goal.loop-place-preserved-then-is_wild_address
loop-place-preserved-then-is_wild_address c =
    let is_data : is_wild_address c.index-records-place.result ≡ true = cc in
    record {
      within = omega arith;
      found = one_more_wild c.args.records.now c.loop-place.place c.index-records-place.result c.loop-place-test.true c.loop-place.invariant.within c.index-records-place.is c.loop-place.wilds c.insert.new.self is_data (rw c.in_ok-name.ensures at c.in_ok-insert.ensures.updates) c.loop-place.invariant.found;
    }

pub loop-place-preserved : goal.loop-place-preserved
loop-place-preserved c =
    let no_data : is_wild_address c.index-records-place.result ≡ false = cc in
    record {
      within = omega arith;
      found = no_wild_more c.args.records.now c.loop-place.place c.index-records-place.result c.loop-place-test.true c.loop-place.invariant.within c.index-records-place.is c.loop-place.wilds no_data c.loop-place.invariant.found;
    }
