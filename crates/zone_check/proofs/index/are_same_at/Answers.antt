use Rattle.std.proofs.Common.{◌≡◌, Some, length, refl}
use Rattle.std.proofs.lemmas.Option.{slice_get_read}
use Rattle.std.specs.List.{slice_get}
use Rattle.zone_check.proofs.index.are_same_at.Goals as goal

pub returns : goal.returns
returns c = λ q r at_one at_other.
    let records = c.args.records.now in
    let one_is : slice_get records c.args.one ≡ Some c.index-records-one.result = slice_get_read records (length records) c.args.one c.index-records-one.result refl c.requires.one c.index-records-one.is in
    let other_is : slice_get records c.args.other ≡ Some c.index-records-other.result = slice_get_read records (length records) c.args.other c.index-records-other.result refl c.requires.other c.index-records-other.is in
    let one : c.index-records-one.result ≡ q = cc in
    let other : c.index-records-other.result ≡ r = cc in
    rw (one, other) at c.are_same.ensures
