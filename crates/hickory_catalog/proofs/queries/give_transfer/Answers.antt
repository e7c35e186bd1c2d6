use Rattle.std.proofs.Common.{[], ◌∷◌, rules, refl}
use Rattle.hickory_base.specs.responses.Responses.{header_of}
use Rattle.hickory_catalog.specs.replies.Replies.{error_reply}
use Rattle.hickory_catalog.specs.transfers.WholeTransfers.{given, nobody}
use Rattle.hickory_catalog.proofs.lemmas.queries.QueryReplies.{if_ok_map}
use Rattle.hickory_catalog.proofs.lemmas.replies.SentInOrder.{sent_alone}
use Rattle.hickory_catalog.proofs.queries.give_transfer.Goals as goal

pub returns-in-None-clause-replied : goal.returns-in-None-clause-replied
returns-in-None-clause-replied g c = (
  error_reply c.args.asked.now.request.now.message c.args.edns.now 2 ∷ [],
  nobody (rw c.in-None.is at c.ask_for_transfer.ensures) refl,
  sent_alone g.R.ResponseHandler c.args.asked.now.request.now.message.metadata c.args.sink.now c.send_error.new.sink
      (error_reply c.args.asked.now.request.now.message c.args.edns.now 2) (header_of c.send_error.result) (search rules),
)

pub returns-in-Some-clause-replied : goal.returns-in-Some-clause-replied
returns-in-Some-clause-replied g c =
    if_ok_map c.answer_given-told.result _ _ c.answer_given-told.ensures.replied
    (λ info w. (w.0, given (rw c.in-Some.is at c.ask_for_transfer.ensures) w.1, w.2))
