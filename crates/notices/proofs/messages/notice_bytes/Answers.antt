-- Without the SOA record a notice is short.
use Rattle.std.proofs.lemmas.Result.{IfOk-weaker}
use Rattle.notices.proofs.Standing.{bare_short}
use Rattle.notices.proofs.messages.notice_bytes.Goals as goal

pub returns-clause-short : goal.returns-clause-short
returns-clause-short c = IfOk-weaker c.bare_bytes-2.result _ _ (λ bytes is. bare_short c.args.id c.args.zone.now bytes.items c.bare_bytes-2.ensures.name is) c.bare_bytes-2.ensures.value
