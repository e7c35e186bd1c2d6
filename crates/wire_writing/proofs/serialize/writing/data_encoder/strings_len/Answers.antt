use Rattle.std.proofs.Common.{◌≡◌, ◌∙◌, length, false, arith, sym, ap, take}
use Rattle.std.specs.Prelude.{nat_lt}
use Rattle.std.specs.List.{flat_map, list_any}
use Rattle.std.proofs.lemmas.List.{take_all}
use Rattle.std.proofs.lemmas.Result.{err_from_is_err_and}
use Rattle.wire_messages.specs.rr.RecordData.{character_string}
use Rattle.wire_messages.proofs.lemmas.serialize.writing.OctetLengths.{flat_map-front, too_long, fits}
use Rattle.wire_writing.proofs.serialize.writing.data_encoder.strings_len.Goals as goal

pub returns-in_err-len : goal.returns-in_err-len
returns-in_err-len c =
    let p = err_from_is_err_and c.from_residual.result c.from_residual.ensures.1 in
    let front = flat_map-front character_string c.args.strings.now c.loop-text.text-index c.text-item.result c.loop-text-test.true c.text-item.is in
    let short : list_any (λ text. nat_lt 255 (length text)) c.args.strings.now ≡ false = sym c.has_long_string.ensures ∙ c.if-has_long_string.false in
    rw (p.1, p.2, c.in_err-len.ensures.0, short) (too_long _ (omega (arith, front, c.in_err-len.ensures.1, c.loop-text.invariant.sum)))

pub returns : goal.returns
returns c =
    let short : list_any (λ text. nat_lt 255 (length text)) c.args.strings.now ≡ false = sym c.has_long_string.ensures ∙ c.if-has_long_string.false in
    let all : take c.loop-text.text-index c.args.strings.now ≡ c.args.strings.now = take_all c.loop-text.text-index c.args.strings.now c.loop-text-test.false in
    let len : c.loop-text.len ≡ length (flat_map character_string c.args.strings.now) = c.loop-text.invariant.sum ∙ ap (λ ts. length (flat_map character_string ts)) all in
    (rw short (fits _ (omega (arith, len, c.loop-text.invariant.small))), len)
