use Rattle.std.proofs.lemmas.Result.{err_from_is_err_and}
use Rattle.record_text.proofs.data.forms.string.Goals as goal

pub returns-in_err-len-clause-refused : goal.returns-in_err-len-clause-refused
returns-in_err-len-clause-refused c =
    let p = err_from_is_err_and c.from_residual.result c.from_residual.ensures.1 in
    rw p.1 (λ other. c.in_err-len.ensures.refused)
