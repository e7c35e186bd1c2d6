use Rattle.std.proofs.lemmas.Result.{err_from_is_err_and}
use Rattle.std.specs.Int.{w16, to_be_bytes}
use Rattle.record_text.specs.RecordText.IsField.{type}
use Rattle.record_text.proofs.NoField.{no_type}
use Rattle.record_text.proofs.data.fields.put_type.Goals as goal

pub returns-clause-put : goal.returns-clause-put
returns-clause-put c = λ origin. (to_be_bytes w16 c.in_ok-record_type.record_type, rw (c.to_be_bytes.ensures, c.value.ensures) at c.in_ok-extend_from_slice.ensures.items, type c.in_ok-record_type.ensures.spelled.0 c.in_ok-record_type.ensures.spelled.1)

pub returns-in_err-record_type-clause-refused : goal.returns-in_err-record_type-clause-refused
returns-in_err-record_type-clause-refused c =
    let p = err_from_is_err_and c.from_residual.result c.from_residual.ensures.1 in
    rw p.1 (λ other. no_type c.args.word.now c.in_err-record_type.ensures.refused)
