use Rattle.std.proofs.Common.{[], refl}
use Rattle.hickory_server.specs.server.Sending.{SentReplies}
use Rattle.hickory_server.specs.declared.server.sending.Sending.TheVariants.{Encoded}
use Rattle.hickory_server.proofs.server.service.passed_above.Goals as goal

pub returns-in-Ok-Some-clause-ok : goal.returns-in-Ok-Some-clause-ok
returns-in-Ok-Some-clause-ok g c = rw c.in-Ok-Some.field-0-is at c.in-Ok-Some.ensures

-- nothing was handled
pub returns-in-Err-clause-err : goal.returns-in-Err-clause-err
returns-in-Err-clause-err g c =
    let sink : SentReplies = record { sending = Encoded c.args.request.now.protocol; replies = []; failures = 0 } in (sink, (refl, refl, refl))
