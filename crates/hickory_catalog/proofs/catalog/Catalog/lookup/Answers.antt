use Rattle.std.proofs.Common.{refl}
use Rattle.hickory_catalog.proofs.lemmas.replies.RepliesToRequests.{query_belongs}
use Rattle.hickory_catalog.proofs.lemmas.queries.QueryReplies.{if_ok_map}
use Rattle.hickory_catalog.proofs.catalog.Catalog.lookup.Goals as goal

pub returns-clause-replied : goal.returns-clause-replied
returns-clause-replied g c =
    if_ok_map c.answer_query.result _ _ (rw c.in_ok-edns.ensures at c.answer_query.ensures.replied)
    (λ info w. (w.0, record { are_replies = w.1; kept = refl }, query_belongs _ _ _ _ w.0 w.1, w.2))
