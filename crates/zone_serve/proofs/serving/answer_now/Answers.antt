use Rattle.std.proofs.Common.{refl}
use Rattle.hickory_server.specs.declared.server.serve.Incoming.{Incoming}
use Rattle.zone_serve.proofs.Results.{if_ok}
use Rattle.zone_serve.proofs.serving.answer_now.Goals as goal

pub returns-clause-answered : goal.returns-clause-answered
returns-clause-answered g c =
    if_ok c.answer_bytes.result _ _
    (λ answer (now, served).
    let message : Incoming = record { bytes = c.args.message.bytes; src = c.source_of-source.result; protocol = c.args.message.protocol; now = now } in (
      message,
      record { protocol_is = refl; address_is = c.source_of-source.ensures; bytes_are = refl },
      served,
    ))
    (rw c.as_slice-bytes.ensures.value at c.answer_bytes.ensures.answered)
