use Rattle.std.proofs.Common.{refl, sym}
use Rattle.signed_server.specs.contracts.placeholders.LeftToServerReplySigner.TheImpl.{ghosts}
use Rattle.server.proofs.WorkedRuns.{stream_goes_on}
use Rattle.server.proofs.worked.worked_stream.Goals as goal

pub returns : goal.returns
returns c =
    let step = c.answer_stream.ensures.step in
    stream_goes_on _ ghosts.signature_for c.args.source c.args.now c.args.service.now c.args.bytes.now c.answer_stream.result c.answer_stream.new.out
    (record c.args.service.now { answering = c.answer_stream.new.self }) step.answered
    (λ zones same. record { zones = sym same; apexes = refl; keys = c.answer_stream.ensures.stays.keys; grants = refl; list = refl })
