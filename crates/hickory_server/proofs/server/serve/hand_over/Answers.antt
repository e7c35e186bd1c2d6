-- The sink had nothing before; where it counted no failure it has all replies.
use Rattle.std.proofs.Common.{◌≡◌, [], arith}
use Rattle.hickory_base.specs.responses.Responses.{header_of}
use Rattle.hickory_server.specs.server.Sending.{SentReplies}
use Rattle.hickory_server.proofs.server.serve.hand_over.Goals as goal

pub returns-clause-ok : goal.returns-clause-ok
returns-clause-ok g c =
    let r = c.in-Ok.ensures.replied in
    let empty : SentReplies = record { sending = c.args.sink.now.sending; replies = []; failures = 0 } in
    let sent = rw c.requires at r.3 in
    let unfailed : c.handle_request.new.sink.failures ≡ 0 = omega (arith, c.if-failures-gt0.false, c.failures.ensures) in
    let taken = c.replies_taken.ensures c.args.request.now.message.metadata empty c.handle_request.new.sink r.0 (header_of c.in-Ok.field-0) sent unfailed in
    (r.0, r.1, rw taken.grew taken.shown)
