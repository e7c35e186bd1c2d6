use Rattle.std.proofs.Common.{arith}
use Rattle.wire_messages.specs.rr.RecordData.{option_octets}
use Rattle.wire_messages.proofs.lemmas.serialize.writing.OctetLengths.{flat_map-front}
use Rattle.wire_messages.proofs.serialize.writing.record_room.left_by_options.Goals as goal

pub returns-in_default : goal.returns-in_default
returns-in_default c =
    let front = flat_map-front option_octets c.args.options.now c.loop-option.option-index c.option-item.result c.loop-option-test.true c.option-item.is in
    omega (arith, front, c.in_default.ensures, c.loop-option.invariant)

pub returns-in_default-left_by : goal.returns-in_default-left_by
returns-in_default-left_by c =
    let front = flat_map-front option_octets c.args.options.now c.loop-option.option-index c.option-item.result c.loop-option-test.true c.option-item.is in
    omega (arith, front, c.in_default-left_by.ensures, c.in-Some.ensures, c.loop-option.invariant)
