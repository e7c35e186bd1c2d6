use Rattle.std.proofs.lemmas.Result.{err_from_is_err_and}
use Rattle.std.specs.Int.{w32, to_be_bytes}
use Rattle.record_text.specs.RecordText.IsField.{moment}
use Rattle.record_text.proofs.NoField.{no_moment}
use Rattle.record_text.proofs.data.fields.put_moment.Goals as goal

pub returns-clause-put : goal.returns-clause-put
returns-clause-put c = λ origin. (to_be_bytes w32 c.in_ok-seconds.seconds, rw c.to_be_bytes.ensures at c.in_ok-extend_from_slice.ensures.items, moment c.in_ok-seconds.ensures.spelled.0 c.in_ok-seconds.ensures.spelled.1)

pub returns-in_err-seconds-clause-refused : goal.returns-in_err-seconds-clause-refused
returns-in_err-seconds-clause-refused c =
    let p = err_from_is_err_and c.from_residual.result c.from_residual.ensures.1 in
    rw p.1 (λ other. no_moment c.args.word.now c.in_err-seconds.ensures.refused)
