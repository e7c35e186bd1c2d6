use Rattle.std.proofs.Common.{None, Option, Some, refl, subst}
use Rattle.server.specs.Exports.{answered}
use Rattle.signed_server.specs.KeyedServers.{keyed_of}
use Rattle.server.specs.Serving.{IsStreamStep}
use Rattle.server.specs.declared.answering.Refusal.{Refusal}
use Rattle.server.proofs.told.tell_stream.Goals as goal

pub returns-in-Some-refusal-clause-told : goal.returns-in-Some-refusal-clause-told
returns-in-Some-refusal-clause-told g c =
    let answer = c.answer_stream-answer.result in
    let before = c.args.answering.now in
    answered c.in-Some.source (Some c.in-Some-refusal.refusal) c.in-Some.ensures.some
    (subst (λ (r : Option Refusal). IsStreamStep (keyed_of g.H.ZoneHandler g.S.ReplySigner.signature_for before.server) before (record { bytes = c.args.bytes.now; source = c.in-Some.source; now = c.args.now })
    (record { consumed = answer.consumed; written = answer.written; refusal = r }) c.answer_stream-answer.new.out c.answer_stream-answer.new.self) c.in-Some-refusal.is c.answer_stream-answer.ensures.step)
    c.number.ensures

pub returns-in-None-clause-told : goal.returns-in-None-clause-told
returns-in-None-clause-told g c =
    let answer = c.answer_stream-answer.result in
    let before = c.args.answering.now in
    answered c.in-Some.source None c.in-Some.ensures.some
    (subst (λ (r : Option Refusal). IsStreamStep (keyed_of g.H.ZoneHandler g.S.ReplySigner.signature_for before.server) before (record { bytes = c.args.bytes.now; source = c.in-Some.source; now = c.args.now })
    (record { consumed = answer.consumed; written = answer.written; refusal = r }) c.answer_stream-answer.new.out c.answer_stream-answer.new.self) c.in-None.is c.answer_stream-answer.ensures.step)
    refl
