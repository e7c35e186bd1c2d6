use Rattle.std.proofs.Common.{refl}
use Rattle.hickory_catalog.proofs.lemmas.replies.RepliesToRequests.{update_belongs}
use Rattle.hickory_catalog.proofs.lemmas.queries.QueryReplies.{if_ok_map}
use Rattle.hickory_catalog.proofs.catalog.Catalog.update.Goals as goal

pub returns-clause-replied : goal.returns-clause-replied
returns-clause-replied g c =
    if_ok_map c.answer_update.result _ _ (rw c.in_ok-copy.ensures at c.answer_update.ensures.replied)
    (λ info w. (w.0, record { reply = w.0; is_reply = w.1; only = refl }, update_belongs _ _ _ _ _ _ w.1, w.2))
