use Rattle.std.proofs.Common.{refl, subst}
use Rattle.wire_messages.specs.declared.protocol.Protocol.{Protocol}
use Rattle.hickory_server.specs.server.ServedBy.{arrival}
use Rattle.hickory_server.specs.declared.server.answer.Answer.TheVariants.{Replies}
use Rattle.server.specs.Exports.{answered, refused}
use Rattle.server.specs.Logged.{AreLogged}
use Rattle.signed_server.specs.KeyedServers.{keyed_of}
use Rattle.signed_server.specs.ServedWithKeys.{ServedWithKeys}
use Rattle.server.specs.Serving.{IsRefused}
use Rattle.server.proofs.told.tell_from.Goals as goal

pub returns-in-Ok-clause-told : goal.returns-in-Ok-clause-told
returns-in-Ok-clause-told g c address port is =
    let (replies, served, put, logged) = c.in-Ok.ensures.ok in
    let before = c.args.answering.now.server in
    let over = subst (λ (p : Protocol). ServedWithKeys (keyed_of g.H.ZoneHandler g.S.ReplySigner.signature_for before) (arrival c.args.message.now c.args.source p c.args.now) (Replies replies)
    c.answer-answer.new.self.server.server.catalog.zones) c.transport.ensures served in
    answered c.args.source replies is over put (subst (λ (p : Protocol). AreLogged c.args.answering.now.log (arrival c.args.message.now c.args.source p c.args.now) replies c.answer-answer.new.self.log) c.transport.ensures logged) refl

pub returns-in-Err-clause-told : goal.returns-in-Err-clause-told
returns-in-Err-clause-told g c address port is =
    let (waits, unwritten, same_log) = c.in-Err.ensures.kept in
    let before = c.args.answering.now.server in
    let over = subst (λ (p : Protocol). IsRefused (keyed_of g.H.ZoneHandler g.S.ReplySigner.signature_for before) (arrival c.args.message.now c.args.source p c.args.now) c.in-Err.refusal
    c.answer-answer.new.self.server.server.catalog.zones) c.transport.ensures c.in-Err.ensures.err in
    refused c.args.source c.in-Err.refusal is over c.number.ensures refl unwritten waits same_log
