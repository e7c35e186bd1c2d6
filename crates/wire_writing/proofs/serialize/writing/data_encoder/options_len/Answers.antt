use Rattle.std.proofs.Common.{arith}
use Rattle.std.proofs.lemmas.Result.{err_from_is_err_and}
use Rattle.wire_messages.specs.rr.RecordData.{option_octets}
use Rattle.wire_messages.proofs.lemmas.serialize.writing.OctetLengths.{flat_map-front, too_long}
use Rattle.wire_writing.proofs.serialize.writing.data_encoder.options_len.Goals as goal

pub returns-in_err-len : goal.returns-in_err-len
returns-in_err-len c =
    let p = err_from_is_err_and c.from_residual.result c.from_residual.ensures.1 in
    let front = flat_map-front option_octets c.args.options.now c.loop-option.option-index c.option-item.result c.loop-option-test.true c.option-item.is in
    rw (p.1, p.2, c.in_err-len.ensures.0) (too_long _ (omega (arith, front, c.in_err-len.ensures.1, c.loop-option.invariant.sum)))
