use Rattle.std.proofs.Common.{Some, ap, ◌∙◌}
use Rattle.hickory_catalog.specs.replies.Replies.{contents_of}
use Rattle.hickory_catalog.proofs.lemmas.queries.QueryReplies.{get_at, if_ok_map}
use Rattle.hickory_catalog.proofs.queries.answer_by_contents.Goals as goal

pub returns-clause-replied : goal.returns-clause-replied
returns-clause-replied g c =
    let handler = get_at c.args.asked.now.chain.now c.args.place c.index-asked-place.result c.requires.place c.index-asked-place.is ∙ ap Some c.index-asked-place.is in
    let replied = c.in_ok-contents.ensures.replied in
    if_ok_map c.send_signed-told.result _ _ (rw c.message.ensures at c.send_signed-told.ensures.replied)
    (λ info w. (_, contents_of c.in_ok-contents.contents, w.0, handler, replied.0, rw c.requires.other replied.1, w.1, w.2))
