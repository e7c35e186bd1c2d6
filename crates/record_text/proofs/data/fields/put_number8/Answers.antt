use Rattle.std.proofs.lemmas.Result.{err_from_is_err_and}
use Rattle.std.proofs.Common.{[], ◌∷◌}
use Rattle.record_text.specs.RecordText.IsField.{number8}
use Rattle.record_text.proofs.NoField.{no_number8}
use Rattle.record_text.proofs.data.fields.put_number8.Goals as goal

pub returns-clause-put : goal.returns-clause-put
returns-clause-put c = λ origin. (c.in_ok-number.number ∷ [], c.in_ok-push.ensures.items, number8 c.in_ok-number.ensures.spelled.0 c.in_ok-number.ensures.spelled.1 c.in_ok-number.ensures.spelled.2)

pub returns-in_err-number-clause-refused : goal.returns-in_err-number-clause-refused
returns-in_err-number-clause-refused c =
    let p = err_from_is_err_and c.from_residual.result c.from_residual.ensures.1 in
    rw p.1 (λ other. no_number8 c.args.word.now c.in_err-number.ensures.refused)
