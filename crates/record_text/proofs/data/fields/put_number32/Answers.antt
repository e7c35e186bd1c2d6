use Rattle.std.proofs.lemmas.Result.{err_from_is_err_and}
use Rattle.std.specs.Int.{w32, to_be_bytes}
use Rattle.record_text.specs.RecordText.IsField.{number32}
use Rattle.record_text.proofs.NoField.{no_number32}
use Rattle.record_text.proofs.data.fields.put_number32.Goals as goal

pub returns-clause-put : goal.returns-clause-put
returns-clause-put c = λ origin. (to_be_bytes w32 c.in_ok-number.number, rw c.to_be_bytes.ensures at c.in_ok-extend_from_slice.ensures.items, number32 c.in_ok-number.ensures.number.0 c.in_ok-number.ensures.number.1 c.in_ok-number.ensures.number.2)

pub returns-in_err-number-clause-refused : goal.returns-in_err-number-clause-refused
returns-in_err-number-clause-refused c =
    let p = err_from_is_err_and c.from_residual.result c.from_residual.ensures.1 in
    rw p.1 (λ other. no_number32 c.args.word.now c.in_err-number.ensures.refused)
