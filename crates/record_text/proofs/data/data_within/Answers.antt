use Rattle.std.proofs.lemmas.Result.{err_from_is_err_and}
use Rattle.std.specs.Option.{option_copied}
use Rattle.record_text.proofs.DataLen.{too_long}
use Rattle.record_text.proofs.data.data_within.Goals as goal

pub returns-in_err-rdata-clause-refused : goal.returns-in_err-rdata-clause-refused
returns-in_err-rdata-clause-refused c =
    let p = err_from_is_err_and c.from_residual.result c.from_residual.ensures.1 in
    rw (p.1, p.2) (λ other rdata is. c.in_err-rdata.ensures.refused other _ is.0)

pub returns-in-None-clause-refused : goal.returns-in-None-clause-refused
returns-in-None-clause-refused c =
    λ other. too_long c.full_forms.ensures.size c.words_spell_once.ensures.bytes c.words_spell_once.ensures.strings c.words_spell_once.ensures.names c.parameters_once.ensures.once (option_copied c.args.origin) c.args.record_type c.args.words.now c.in_ok-rdata.rdata
    c.in_ok-rdata.ensures.spelled c.in-None.ensures.too_long
