use Rattle.std.proofs.Common.{◌≡◌, arith}
use Rattle.std.proofs.lemmas.Bool.Decides.{nat_tests}
use Rattle.wire_messages.specs.rr.RecordData.{type_of}
use Rattle.zone_check.proofs.HashedAnswers.{unread_is}
use Rattle.zone_check.proofs.hashed.is_unread_hash.Goals as goal

pub returns : goal.returns
returns c =
    let typed : type_of c.args.record.now.rdata ≡ 50 = grind (arith, nat_tests) in
    unread_is c.args.zone.now c.args.record.now c.in_ok-hash.hash c.in_ok-data.data c.is_none.result c.is_none-2.result typed c.in_ok-hash.ensures c.is_none.ensures c.if-is_none.false c.in_ok-data.ensures c.is_none-2.ensures
