use Rattle.std.proofs.Common.{◌≡◌, [], ◌∷◌, None, Some, rules, refl}
use Rattle.wire_messages.specs.serialize.writing.Reply.{Reply}
use Rattle.hickory_base.specs.responses.Responses.{header_of}
use Rattle.hickory_catalog.specs.replies.Replies.{error_reply}
use Rattle.hickory_catalog.specs.replies.ReplyEdns.{reply_edns}
use Rattle.hickory_catalog.specs.requests.Requests.{asks, refused, request_fault, updates}
use Rattle.hickory_catalog.proofs.lemmas.replies.RepliesToRequests.{all_to_request, query_belongs, refusal_belongs, to_request, update_belongs}
use Rattle.hickory_catalog.proofs.lemmas.queries.QueryReplies.{if_ok_map}
use Rattle.hickory_catalog.proofs.lemmas.replies.SentInOrder.{sent_alone}
use Rattle.hickory_catalog.proofs.catalog.CatalogRequestHandler.handle_request.Goals as goal

pub returns-in-Some-clause-replied : goal.returns-in-Some-clause-replied
returns-in-Some-clause-replied g c =
    let fault : request_fault c.args.request.now.message ≡ Some c.in-Some.code = search rules in
    let reply : Reply = error_reply c.args.request.now.message (reply_edns c.args.self.now.nsid c.args.request.now.message.edns) c.in-Some.code in
    (reply ∷ [], refused fault refl refl, (refusal_belongs _ _ _ _ refl, tt), sent_alone g.R.ResponseHandler c.args.request.now.message.metadata c.args.sink.now c.send_error.new.sink reply (header_of c.send_error.result) (search rules))

pub returns-then-value-clause-replied : goal.returns-then-value-clause-replied
returns-then-value-clause-replied g c =
    let unrefused : request_fault c.args.request.now.message ≡ None = search rules in
    let edns : c.in_ok-edns.edns ≡ reply_edns c.args.self.now.nsid c.args.request.now.message.edns = search rules in
    if_ok_map c.answer_update.result _ _ (rw edns at c.answer_update.ensures.replied)
    (λ info w. (
      w.0 ∷ [],
      updates unrefused (search rules) (record { reply = w.0; is_reply = w.1; only = refl }),
      (to_request _ _ _ (update_belongs _ _ _ _ _ _ w.1), tt),
      sent_alone g.R.ResponseHandler c.args.request.now.message.metadata c.args.sink.now c.answer_update.new.sink w.0 (header_of info) w.2,
    ))

pub returns-clause-replied : goal.returns-clause-replied
returns-clause-replied g c =
    let unrefused : request_fault c.args.request.now.message ≡ None = search rules in
    let edns : c.in_ok-edns.edns ≡ reply_edns c.args.self.now.nsid c.args.request.now.message.edns = search rules in
    if_ok_map c.answer_query.result _ _ (rw edns at c.answer_query.ensures.replied)
    (λ info w. (
      w.0,
      asks unrefused (search rules) (record { are_replies = w.1; kept = refl }),
      all_to_request _ _ w.0 (query_belongs _ _ _ _ w.0 w.1),
      w.2,
    ))
