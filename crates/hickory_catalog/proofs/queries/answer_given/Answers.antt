use Rattle.std.proofs.Common.{[], ◌∷◌, refl, rules}
use Rattle.hickory_base.specs.responses.Responses.{header_of}
use Rattle.hickory_catalog.specs.queries.Queries.{split, whole}
use Rattle.hickory_catalog.proofs.lemmas.queries.QueryReplies.{if_ok_map}
use Rattle.hickory_catalog.proofs.lemmas.replies.SentInOrder.{sent_alone}
use Rattle.hickory_catalog.proofs.queries.answer_given.Goals as goal

pub returns-in-Some-clause-replied : goal.returns-in-Some-clause-replied
returns-in-Some-clause-replied g c =
    let is = rw c.protocol.ensures at c.in-Some.ensures.split in
    let sent = rw c.message.ensures at c.send_transfer-told.ensures in
    (sent.0, split is.1 is.0 is.2 sent.1, sent.2)

pub returns-clause-replied : goal.returns-clause-replied
returns-clause-replied g c =
    if_ok_map c.answer_transferred.result _ _ c.answer_transferred.ensures.replied
    (λ info w. (
      w.0 ∷ [],
      whole w.1 (search rules) w.2 refl,
      sent_alone g.R.ResponseHandler c.args.request.now.message.metadata c.args.sink.now c.answer_transferred.new.sink w.0 (header_of info) w.3,
    ))
