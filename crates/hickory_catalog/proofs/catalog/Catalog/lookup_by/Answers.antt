use Rattle.std.proofs.Common.{◌≡◌, [], ◌∷◌, refl, rules}
use Rattle.hickory_base.specs.responses.Responses.{header_of}
use Rattle.hickory_catalog.specs.queries.Queries.{asked, other_count}
use Rattle.hickory_catalog.specs.replies.Replies.{error_reply}
use Rattle.hickory_catalog.specs.replies.ReplyEdns.{reply_edns}
use Rattle.hickory_catalog.proofs.lemmas.queries.QueryReplies.{if_ok_map}
use Rattle.hickory_catalog.proofs.lemmas.replies.SentInOrder.{sent_alone}
use Rattle.hickory_catalog.proofs.catalog.Catalog.lookup_by.Goals as goal

pub returns-in-Err-clause-replied : goal.returns-in-Err-clause-replied
returns-in-Err-clause-replied g c = (
  error_reply c.args.request.now.message (reply_edns c.args.self.now.nsid c.args.request.now.message.edns) 1 ∷ [],
  other_count c.in-Err.ensures.err refl,
  sent_alone g.R.ResponseHandler c.args.request.now.message.metadata c.args.sink.now c.send_error.new.sink
      (error_reply c.args.request.now.message (reply_edns c.args.self.now.nsid c.args.request.now.message.edns) 1) (header_of c.send_error.result) (search rules),
)

pub returns-clause-replied : goal.returns-clause-replied
returns-clause-replied g c =
    let edns : c.in_ok-edns.edns ≡ reply_edns c.args.self.now.nsid c.args.request.now.message.edns = search rules in
    if_ok_map c.answer_by_given.result _ _ (rw edns at c.answer_by_given.ensures.replied) (λ info w. (w.0, asked c.in-Ok.ensures.query w.1, w.2))
