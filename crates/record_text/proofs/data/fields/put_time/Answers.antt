use Rattle.std.proofs.lemmas.Result.{err_from_is_err_and}
use Rattle.std.specs.Int.{w32, to_be_bytes}
use Rattle.record_text.specs.RecordText.IsField.{time}
use Rattle.record_text.proofs.NoField.{no_time}
use Rattle.record_text.proofs.data.fields.put_time.Goals as goal

pub returns-clause-put : goal.returns-clause-put
returns-clause-put c = λ origin. (to_be_bytes w32 c.in_ok-seconds.seconds, rw c.to_be_bytes.ensures at c.in_ok-extend_from_slice.ensures.items, time c.in_ok-seconds.ensures.time.0 c.in_ok-seconds.ensures.time.1 c.in_ok-seconds.ensures.time.2)

pub returns-in_err-seconds-clause-refused : goal.returns-in_err-seconds-clause-refused
returns-in_err-seconds-clause-refused c =
    let p = err_from_is_err_and c.from_residual.result c.from_residual.ensures.1 in
    rw p.1 (λ other. no_time c.args.word.now c.in_err-seconds.ensures.refused)
