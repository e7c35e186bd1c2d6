use Rattle.std.proofs.Common.{◌∙◌, ap, arith}
use Rattle.std.proofs.lemmas.Result.{err_from_is_err_and}
use Rattle.text_words.specs.Cuts.{behind_byte}
use Rattle.record_text.proofs.PrefixesOnce.{no_bits, too_many}
use Rattle.record_text.proofs.data.prefixes.prefix_of.Goals as goal

pub returns-in_err-bits-clause-refused : goal.returns-in_err-bits-clause-refused
returns-in_err-bits-clause-refused c =
    let p = err_from_is_err_and c.from_residual-in_err-bits.result c.from_residual-in_err-bits.ensures.1 in
    rw p.1 (λ other. no_bits c.args.text.now c.cut_at-2.result.1.now (c.cut_at-2.ensures.behind ∙ ap (behind_byte 47) c.cut_at.ensures.behind) c.in_err-bits.ensures.refused)

pub returns-then-bits-address_bits-clause-refused : goal.returns-then-bits-address_bits-clause-refused
returns-then-bits-address_bits-clause-refused c = λ other. too_many c.args.text.now c.cut_at.result.0.now c.cut_at-2.result.1.now c.in_ok-family.family c.in_ok-bits.bits
    c.cut_at.ensures.before (c.cut_at-2.ensures.behind ∙ ap (behind_byte 47) c.cut_at.ensures.behind)
    c.in_ok-family.ensures.number c.in_ok-bits.ensures.number (omega (arith, c.if-bits-address_bits.true, c.address_bits.ensures.value))
