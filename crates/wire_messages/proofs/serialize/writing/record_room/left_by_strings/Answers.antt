use Rattle.std.proofs.Common.{arith}
use Rattle.wire_messages.specs.rr.RecordData.{character_string}
use Rattle.wire_messages.proofs.lemmas.serialize.writing.OctetLengths.{flat_map-front}
use Rattle.wire_messages.proofs.serialize.writing.record_room.left_by_strings.Goals as goal

pub returns-in_default : goal.returns-in_default
returns-in_default c =
    let front = flat_map-front character_string c.args.strings.now c.loop-text.text-index c.text-item.result c.loop-text-test.true c.text-item.is in
    omega (arith, front, c.in_default.ensures, c.loop-text.invariant)

pub returns-in_default-left_by : goal.returns-in_default-left_by
returns-in_default-left_by c =
    let front = flat_map-front character_string c.args.strings.now c.loop-text.text-index c.text-item.result c.loop-text-test.true c.text-item.is in
    omega (arith, front, c.in_default-left_by.ensures, c.in-Some.ensures, c.loop-text.invariant)
