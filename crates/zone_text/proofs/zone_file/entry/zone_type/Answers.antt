use Rattle.std.proofs.Common.{◌≡◌, true, false, subst}
use Rattle.record_text.proofs.TypesOnce.{types_once}
use Rattle.zone_text.specs.ZoneFiles.{IsZoneType}
use Rattle.zone_text.proofs.zone_file.entry.zone_type.Goals as goal

not_so : false ≡ true → ⊥
not_so e = cc

pub returns-in-Err-clause-refused : goal.returns-in-Err-clause-refused
returns-in-Err-clause-refused c = λ other number type stored. c.in-Err.ensures.refused number type.unquoted type.spelled

pub returns-then-not-is_zone_type-clause-refused : goal.returns-then-not-is_zone_type-clause-refused
returns-then-not-is_zone_type-clause-refused c = λ other number type stored.
    let same : number ≡ c.in-Ok.record_type = types_once c.args.word.now.bytes.now number c.in-Ok.record_type type.spelled c.in-Ok.ensures.spelled.1 in
    not_so (c.if-not-is_zone_type.ensures.1 (subst IsZoneType same stored))
