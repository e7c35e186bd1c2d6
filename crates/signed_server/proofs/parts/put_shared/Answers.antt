-- Why a reply cannot be sent.
use Rattle.std.proofs.Common.{rules}
use Rattle.hickory_base.proofs.lemmas.ResultMaps.{if_ok_map}
use Rattle.hickory_server.specs.server.Ruling.{AsksForTransfer}
use Rattle.signed_server.specs.SharedReplies.{FitsUncut}
use Rattle.signed_server.specs.SharedReplies.CannotBeSent.{no_parts}
use Rattle.signed_server.proofs.parts.put_shared.Goals as goal

pub returns-clause-lacking : goal.returns-clause-lacking
returns-clause-lacking c =
    let cut : ¬ (FitsUncut c.args.limit c.args.reply) = search rules in
    let asks : AsksForTransfer c.args.request.now.message = search rules in
    if_ok_map c.put_transfer.result _ _ c.put_transfer.ensures.lacking (λ done lacking failed. no_parts cut asks (lacking failed))
