use Rattle.hickory_catalog.specs.requests.Server.{server_of}
use Rattle.zone_reply.proofs.Serving.{lines_of, refusal_of}
use Rattle.zone_reply.proofs.run.reply_lines.Goals as goal

pub returns-clause-ok : goal.returns-clause-ok
returns-clause-ok g c =
    let one = c.in_ok-outcomes.ensures.ok in
    lines_of (server_of g.H.ZoneHandler g.S.ReplySigner.signature_for c.args.catalog.now) c.args.protocol c.args.message.items one.0 c.outcome.new.catalog.zones one.2 c.in_ok-outcomes.outcomes.items one.1
    c.outcome_lines.result (rw c.deref.ensures.value at c.outcome_lines.ensures.ok)

pub returns-clause-err : goal.returns-clause-err
returns-clause-err g c =
    let one = c.in_ok-outcomes.ensures.ok in
    refusal_of (server_of g.H.ZoneHandler g.S.ReplySigner.signature_for c.args.catalog.now) c.args.protocol c.args.message.items one.0 c.outcome.new.catalog.zones one.2 c.in_ok-outcomes.outcomes.items one.1
    c.outcome_lines.result (rw c.deref.ensures.value at c.outcome_lines.ensures.err)
