use Rattle.std.proofs.Common.{refl}
use Rattle.std.specs.Option.{option_copied}
use Rattle.hickory_base.proofs.lemmas.responses.LentReplies.{given_by_empty, given_by_slice, reply_of_parts}
use Rattle.hickory_catalog.specs.replies.Replies.{contents_of, plain_reply}
use Rattle.hickory_catalog.proofs.lemmas.queries.QueryReplies.{if_err_map, if_ok_map}
use Rattle.hickory_catalog.proofs.lemmas.replies.SentReplies.{given_by_chain, sent_as_told}
use Rattle.hickory_catalog.proofs.sending.send_contents.Goals as goal

pub returns : goal.returns
returns g c =
    let b = c.response-response.ensures in
    sent_as_told g.R.ResponseHandler c.args.request.now.metadata c.args.sink.now c.send_once.new.sink
    (record (plain_reply c.args.request.now (option_copied c.args.edns) (contents_of c.args.contents.now)) { signature = c.args.signature })
    c.send_once.result c.told.result c.told.ensures.taken c.told.ensures.failed
    (if_ok_map c.send_once.result _ _ c.send_once.ensures.taken (λ info w. w _ (λ r is. reply_of_parts r is b.parts.metadata_is b.parts.queries b.parts.edns refl (given_by_slice is.answers b.answers)
    (given_by_chain is.authorities b.first b.second b.third b.undone.0 b.undone.1 b.undone_behind.0 b.undone_behind.1)
    (given_by_empty is.soa b.soa) (given_by_slice is.additionals b.additionals))))
    (if_err_map c.send_once.result _ _ c.send_once.ensures.failed (λ info w. w _ (λ r is. reply_of_parts r is b.parts.metadata_is b.parts.queries b.parts.edns refl (given_by_slice is.answers b.answers)
    (given_by_chain is.authorities b.first b.second b.third b.undone.0 b.undone.1 b.undone_behind.0 b.undone_behind.1)
    (given_by_empty is.soa b.soa) (given_by_slice is.additionals b.additionals))))
