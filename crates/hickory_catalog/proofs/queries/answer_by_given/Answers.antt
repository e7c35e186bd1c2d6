use Rattle.std.proofs.Common.{[], ◌∷◌, refl}
use Rattle.hickory_base.specs.responses.Responses.{header_of}
use Rattle.hickory_catalog.specs.queries.Queries.{one}
use Rattle.hickory_catalog.proofs.lemmas.queries.QueryReplies.{if_ok_map}
use Rattle.hickory_catalog.proofs.lemmas.replies.SentInOrder.{sent_alone}
use Rattle.hickory_catalog.proofs.queries.answer_by_given.Goals as goal

pub returns-else-value-clause-replied : goal.returns-else-value-clause-replied
returns-else-value-clause-replied g c =
    if_ok_map c.answer_by_chain.result _ _ c.answer_by_chain.ensures.replied
    (λ info w. (
      w.0 ∷ [],
      one w.1 refl,
      sent_alone g.R.ResponseHandler c.args.asked.now.request.now.message.metadata c.args.sink.now c.answer_by_chain.new.sink w.0 (header_of info) w.2,
    ))
