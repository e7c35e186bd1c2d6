use Rattle.std.proofs.Common.{arith}
use Rattle.std.proofs.lemmas.Result.{err_from_is_err_and}
use Rattle.text_data.proofs.AngleWords.{as_degrees, as_minutes, as_seconds, no_seconds}
use Rattle.text_data.proofs.angles.angle.Goals as goal

pub returns-in_err-seconds-in-len3-clause-refused : goal.returns-in_err-seconds-in-len3-clause-refused
returns-in_err-seconds-in-len3-clause-refused c =
    let p = err_from_is_err_and c.from_residual-in_err-seconds-in-len3.result c.from_residual-in_err-seconds-in-len3.ensures.1 in
    rw p.1 (no_seconds c.args.words.now _ (omega (arith, c.in-len3.len_at_least, c.in-len3.len_below)) c.in_err-seconds-in-len3.ensures.refused)

pub returns-in_ok-number-in-len1-clause-spelled : goal.returns-in_ok-number-in-len1-clause-spelled
returns-in_ok-number-in-len1-clause-spelled c =
    let is = c.in_ok-number-in-len1.ensures.number in
    as_degrees c.args.words.now _ c.in_ok-number-in-len1.field-0 c.from.result (omega (arith, c.in-len1.len_at_least, c.in-len1.len_below)) (is.0, is.1) c.from.ensures

pub returns-in_ok-minutes-in-len2-clause-spelled : goal.returns-in_ok-minutes-in-len2-clause-spelled
returns-in_ok-minutes-in-len2-clause-spelled c =
    let is = c.in_ok-number-in-len2.ensures.number in
    as_minutes c.args.words.now _ c.in_ok-number-in-len2.field-0 c.from-degrees.result c.in_ok-minutes-in-len2.field-0 c.from-in-len2.result (omega (arith, c.in-len2.len_at_least, c.in-len2.len_below)) (is.0, is.1) c.from-degrees.ensures
    c.in_ok-minutes-in-len2.ensures.spelled c.from-in-len2.ensures

pub returns-in_ok-seconds-in-len3-clause-spelled : goal.returns-in_ok-seconds-in-len3-clause-spelled
returns-in_ok-seconds-in-len3-clause-spelled c =
    let is = c.in_ok-number-in-len3.ensures.number in
    as_seconds c.args.words.now _ c.in_ok-number-in-len3.field-0 c.from-degrees-in-len3.result c.in_ok-minutes-in-len3.field-0 c.from-minutes.result c.in_ok-seconds-in-len3.field-0 (omega (arith, c.in-len3.len_at_least, c.in-len3.len_below))
    (is.0, is.1) c.from-degrees-in-len3.ensures c.in_ok-minutes-in-len3.ensures.spelled c.from-minutes.ensures c.in_ok-seconds-in-len3.ensures.spelled
