use Rattle.hickory_catalog.proofs.lemmas.replies.SentReplies.{failed_after_err, taken_after_ok}
use Rattle.hickory_catalog.proofs.sending.send_once.Goals as goal

pub returns-in-Ok-clause-taken : goal.returns-in-Ok-clause-taken
returns-in-Ok-clause-taken g c = λ reply so. (c.in-Ok.ensures.settled, taken_after_ok g.R.ResponseHandler c.args.sink.now c.send_response.new.self reply so c.in-Ok.ensures.ok c.in-Ok.ensures.uncounted)

pub returns-in-Err-clause-failed : goal.returns-in-Err-clause-failed
returns-in-Err-clause-failed g c = λ reply so. (c.in-Err.ensures.settled, failed_after_err g.R.ResponseHandler c.args.sink.now c.send_response.new.self reply so c.in-Err.ensures.err c.in-Err.ensures.counted c.failure.ensures)
