use Rattle.std.proofs.Common.{◌≡◌, ◌<◌, ◌∙◌, Some, length, refl, arith}
use Rattle.std.proofs.lemmas.Option.{slice_get_read}
use Rattle.std.specs.List.{slice_get}
use Rattle.zone_check.specs.Indexes.{earlier_of}
use Rattle.zone_check.proofs.Earlier.{key, one_more_earlier, one_more_last}
use Rattle.zone_check.proofs.index.earlier_of.Goals as goal

pub loop-place-preserved : goal.loop-place-preserved
loop-place-preserved c =
    let records = c.args.records.now in
    let place = c.loop-place.place in
    let r = c.index-records-place.result in
    let within : place < length records = omega arith in
    let there : slice_get records place ≡ Some r = slice_get_read records (length records) place r refl within c.index-records-place.is in
    let is : c.in_ok-last.last ≡ earlier_of records place r = rw c.in_ok-key.ensures at c.in_ok-last.ensures.old ∙ c.loop-place.invariant.lasts (key r) in
    record {
      lasts = one_more_last records place r there c.loop-place.lasts c.insert.new.self (rw c.in_ok-key.ensures at c.in_ok-last.ensures.updates) c.loop-place.invariant.lasts;
      earlier = rw c.in_ok-push.ensures.items (one_more_earlier records place r there c.loop-place.earlier.items c.in_ok-last.last is c.loop-place.invariant.earlier);
    }
