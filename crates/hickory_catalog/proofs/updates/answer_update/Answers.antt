use Rattle.std.proofs.Common.{rules, refl}
use Rattle.hickory_catalog.specs.replies.Replies.{error_reply}
use Rattle.hickory_catalog.specs.updates.Updates.{answered, no_apex, no_handler}
use Rattle.hickory_catalog.proofs.lemmas.queries.QueryReplies.{if_ok_map}
use Rattle.hickory_catalog.proofs.updates.answer_update.Goals as goal

pub returns-in-NoZone-clause-replied : goal.returns-in-NoZone-clause-replied
returns-in-NoZone-clause-replied g c =
    let updated = rw c.in-NoZone.is at c.update.ensures in
    (error_reply c.args.request.now.message c.args.edns.now 9, no_apex (search rules) updated.0 refl updated.1, search rules)

pub returns-in-NoHandler-clause-replied : goal.returns-in-NoHandler-clause-replied
returns-in-NoHandler-clause-replied g c =
    let updated = rw c.in-NoHandler.is at c.update.ensures in
    (error_reply c.args.request.now.message c.args.edns.now 2, no_handler (search rules) updated.0 refl updated.1, search rules)

pub returns-in-Answered-clause-replied : goal.returns-in-Answered-clause-replied
returns-in-Answered-clause-replied g c =
    let updated = rw c.in-Answered.is at c.update.ensures in
    if_ok_map c.answer_updated-told.result _ _ c.answer_updated-told.ensures.replied (λ info w. (w.0, answered (search rules) updated w.2 w.3 w.4, w.5))
