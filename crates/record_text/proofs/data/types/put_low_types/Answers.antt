use Rattle.std.proofs.lemmas.Result.{err_from_is_err_and}
use Rattle.record_text.proofs.data.types.put_low_types.Goals as goal

pub returns-in_err-types-clause-refused : goal.returns-in_err-types-clause-refused
returns-in_err-types-clause-refused c =
    let p = err_from_is_err_and c.from_residual.result c.from_residual.ensures.1 in
    rw (p.1, p.2) (λ other octets is. c.in_err-types.ensures.refused other is.types is.spelled)
