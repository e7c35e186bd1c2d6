use Rattle.std.proofs.Common.{refl}
use Rattle.signed_server.specs.contracts.placeholders.LeftToServerReplySigner.TheImpl.{ghosts}
use Rattle.server.specs.Run.{goes_on}
use Rattle.server.proofs.WorkedRuns.{answered_so}
use Rattle.server.proofs.worked.worked_message.Goals as goal

pub returns : goal.returns
returns c = λ events run.
    let o = answered_so _ ghosts.signature_for c.args.service.now c.args.message.now c.as_slice-bytes.result.now c.as_slice-bytes.ensures.value c.answer.new.self.server.server.catalog.zones _ (λ end says. (says.0, says.1)) c.answer.result c.answer.ensures.ok c.answer.ensures.err in
    (o.0, goes_on run (o.1, record { stays = c.answer.ensures.stays; others = refl }))
