use Rattle.std.proofs.Common.{◌<◌, ◌≤◌, length, refl, sym, arith}
use Rattle.std.proofs.lemmas.Option.{slice_get_past, slice_get_read}
use Rattle.zone_check.proofs.index.record_at.Goals as goal

pub returns-then-place-records : goal.returns-then-place-records
returns-then-place-records c =
    let within : c.args.place < length c.args.records.now = omega arith in
    sym (slice_get_read c.args.records.now (length c.args.records.now) c.args.place c.index-records-place.result refl within c.index-records-place.is)

pub returns-else-place-records : goal.returns-else-place-records
returns-else-place-records c =
    let past : length c.args.records.now ≤ c.args.place = omega arith in
    sym (slice_get_past c.args.records.now c.args.place past)
