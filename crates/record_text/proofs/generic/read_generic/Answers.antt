use Rattle.std.proofs.Common.{arith}
use Rattle.std.proofs.lemmas.Result.{err_from_is_err_and}
use Rattle.record_text.proofs.GenericData.{fits, no_bytes, no_data, no_size, read}
use Rattle.record_text.proofs.generic.read_generic.Goals as goal

pub returns-clause-spelled : goal.returns-clause-spelled
returns-clause-spelled c = read c.args.record_type c.in_ok-number.field-0 c.args.size.now c.args.digits.now c.in_ok-bytes.bytes.items c.data_of_bytes.result c.in_ok-number.ensures.number.0 c.in_ok-number.ensures.number.1
    (omega (arith, c.len.ensures, c.from.ensures, c.if-len-from.false, c.in-Ok.ensures.1, c.in_ok-bytes.bytes.ok.0)) (omega (arith, c.in-Ok.ensures.0)) c.in_ok-bytes.ensures.spelled.0 c.in_ok-bytes.ensures.spelled.1 (rw c.as_slice.ensures.value at c.data_of_bytes.ensures.read)
    c.data_of_bytes.ensures.form (rw c.as_slice.ensures.value at c.data_of_bytes.ensures.in_full)

pub returns-clause-fits : goal.returns-clause-fits
returns-clause-fits c = fits c.full_forms.ensures.size c.in_ok-bytes.bytes.items c.data_of_bytes.result (omega (arith, c.len.ensures, c.from.ensures, c.if-len-from.false, c.in-Ok.ensures.1, c.in-Ok.ensures.0, c.in_ok-bytes.bytes.ok.0))
    (rw c.as_slice.ensures.value at c.data_of_bytes.ensures.in_full)

pub returns-clause-refused : goal.returns-clause-refused
returns-clause-refused c = no_data c.args.record_type c.args.size.now c.args.digits.now c.in_ok-bytes.bytes.items c.data_of_bytes.result c.in_ok-bytes.ensures.spelled.1 (rw c.as_slice.ensures.value at c.data_of_bytes.ensures.refused)

pub returns-in_err-number-clause-refused : goal.returns-in_err-number-clause-refused
returns-in_err-number-clause-refused c =
    let p = err_from_is_err_and c.from_residual.result c.from_residual.ensures.1 in
    rw p.1 (λ other. no_size c.args.record_type c.args.size.now c.args.digits.now c.in_err-number.ensures.refused)

pub returns-in_err-bytes-clause-refused : goal.returns-in_err-bytes-clause-refused
returns-in_err-bytes-clause-refused c =
    let p = err_from_is_err_and c.from_residual-in_err-bytes.result c.from_residual-in_err-bytes.ensures.1 in
    rw (p.1, p.2) (λ other. no_bytes c.args.record_type c.args.size.now c.args.digits.now (c.in_err-bytes.ensures.refused other))
