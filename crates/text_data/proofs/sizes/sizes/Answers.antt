use Rattle.std.proofs.Common.{arith}
use Rattle.std.proofs.lemmas.Result.{err_from_is_err_and}
use Rattle.text_data.proofs.SizeWords.{no_first, no_second, no_sizes, no_third, one_size, three_sizes, two_sizes}
use Rattle.text_data.proofs.sizes.sizes.Goals as goal

pub returns-in_err-size-in-len1-clause-refused : goal.returns-in_err-size-in-len1-clause-refused
returns-in_err-size-in-len1-clause-refused c =
    let p = err_from_is_err_and c.from_residual.result c.from_residual.ensures.1 in
    rw p.1 (λ octets are. no_first c.args.words.now _ octets are (omega (arith, c.in-len1.len_at_least)) c.in_err-size-in-len1.ensures.refused)

pub returns-in_err-size-in-len2-clause-refused : goal.returns-in_err-size-in-len2-clause-refused
returns-in_err-size-in-len2-clause-refused c =
    let p = err_from_is_err_and c.from_residual-in_err-size-in-len2.result c.from_residual-in_err-size-in-len2.ensures.1 in
    rw p.1 (λ octets are. no_first c.args.words.now _ octets are (omega (arith, c.in-len2.len_at_least)) c.in_err-size-in-len2.ensures.refused)

pub returns-in_err-size-in-len2-2-clause-refused : goal.returns-in_err-size-in-len2-2-clause-refused
returns-in_err-size-in-len2-2-clause-refused c =
    let p = err_from_is_err_and c.from_residual-in_err-size-in-len2-2.result c.from_residual-in_err-size-in-len2-2.ensures.1 in
    rw p.1 (λ octets are. no_second c.args.words.now _ octets are (omega (arith, c.in-len2.len_at_least)) c.in_err-size-in-len2-2.ensures.refused)

pub returns-in_err-size-in-len3-clause-refused : goal.returns-in_err-size-in-len3-clause-refused
returns-in_err-size-in-len3-clause-refused c =
    let p = err_from_is_err_and c.from_residual-in_err-size-in-len3.result c.from_residual-in_err-size-in-len3.ensures.1 in
    rw p.1 (λ octets are. no_first c.args.words.now _ octets are (omega (arith, c.in-len3.len_at_least)) c.in_err-size-in-len3.ensures.refused)

pub returns-in_err-size-in-len3-2-clause-refused : goal.returns-in_err-size-in-len3-2-clause-refused
returns-in_err-size-in-len3-2-clause-refused c =
    let p = err_from_is_err_and c.from_residual-in_err-size-in-len3-2.result c.from_residual-in_err-size-in-len3-2.ensures.1 in
    rw p.1 (λ octets are. no_second c.args.words.now _ octets are (omega (arith, c.in-len3.len_at_least)) c.in_err-size-in-len3-2.ensures.refused)

pub returns-in_err-size-in-len3-3-clause-refused : goal.returns-in_err-size-in-len3-3-clause-refused
returns-in_err-size-in-len3-3-clause-refused c =
    let p = err_from_is_err_and c.from_residual-in_err-size-in-len3-3.result c.from_residual-in_err-size-in-len3-3.ensures.1 in
    rw p.1 (λ octets are. no_third c.args.words.now _ octets are (omega (arith, c.in-len3.len_at_least)) c.in_err-size-in-len3-3.ensures.refused)

pub returns-in-empty-clause-spelled : goal.returns-in-empty-clause-spelled
returns-in-empty-clause-spelled c = no_sizes c.args.words.now c.in-empty.len_below

pub returns-in_ok-size-in-len1-clause-spelled : goal.returns-in_ok-size-in-len1-clause-spelled
returns-in_ok-size-in-len1-clause-spelled c = one_size c.args.words.now _ c.in_ok-size-in-len1.field-0 (omega (arith, c.in-len1.len_at_least, c.in-len1.len_below)) c.in_ok-size-in-len1.ensures.spelled

pub returns-in_ok-size-in-len2-2-clause-spelled : goal.returns-in_ok-size-in-len2-2-clause-spelled
returns-in_ok-size-in-len2-2-clause-spelled c =
    two_sizes c.args.words.now _ c.in_ok-size-in-len2.field-0 c.in_ok-size-in-len2-2.field-0 (omega (arith, c.in-len2.len_at_least, c.in-len2.len_below)) c.in_ok-size-in-len2.ensures.spelled c.in_ok-size-in-len2-2.ensures.spelled

pub returns-in_ok-size-in-len3-3-clause-spelled : goal.returns-in_ok-size-in-len3-3-clause-spelled
returns-in_ok-size-in-len3-3-clause-spelled c =
    three_sizes c.args.words.now _ c.in_ok-size-in-len3.field-0 c.in_ok-size-in-len3-2.field-0 c.in_ok-size-in-len3-3.field-0 (omega (arith, c.in-len3.len_at_least, c.in-len3.len_below)) c.in_ok-size-in-len3.ensures.spelled
    c.in_ok-size-in-len3-2.ensures.spelled c.in_ok-size-in-len3-3.ensures.spelled
