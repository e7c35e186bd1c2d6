use Rattle.std.proofs.Common.{refl}
use Rattle.hickory_catalog.specs.queries.Queries.{whole_contents}
use Rattle.hickory_catalog.proofs.lemmas.queries.QueryReplies.{at_place, if_ok_map}
use Rattle.hickory_catalog.proofs.queries.answer_outcome.Goals as goal

pub returns-in-Ok-Whole-clause-replied : goal.returns-in-Ok-Whole-clause-replied
returns-in-Ok-Whole-clause-replied g c =
    let at = at_place c.args.asked.now.chain.now c.args.place c.requires in
    if_ok_map c.answer_whole.result _ _ (rw c.message.ensures at c.answer_whole.ensures.replied)
    (λ info w. (at.0, whole_contents c.args.asked.now.request.now.message.metadata c.in-Ok-Whole.whole, w.0, at.1, rw c.in-Ok-Whole.is refl, rw (c.in-Ok-Whole.is, c.in-Ok-Whole.field-0-is) (refl, w.1), w.2, w.3))
