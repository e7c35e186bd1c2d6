use Rattle.std.proofs.Common.{rules, refl, ap}
use Rattle.hickory_base.specs.zone_store.Lookups.{result_of}
use Rattle.hickory_catalog.specs.queries.Queries.{lookup, unanswered}
use Rattle.hickory_catalog.specs.replies.Replies.{error_reply}
use Rattle.hickory_catalog.proofs.lemmas.queries.QueryReplies.{if_ok_map}
use Rattle.hickory_catalog.proofs.queries.answer_chained.Goals as goal

pub returns-in-Skip-clause-replied : goal.returns-in-Skip-clause-replied
returns-in-Skip-clause-replied g c =
    let none = ap result_of c.in-Skip.is in (
      error_reply c.args.asked.now.request.now.message c.args.edns.now 2,
      unanswered c.requires.lookup (c.requires.skipped none).2 none refl,
      search rules,
    )

pub returns-in-Continue-clause-replied : goal.returns-in-Continue-clause-replied
returns-in-Continue-clause-replied g c =
    if_ok_map c.answer_outcome.result _ _ c.answer_outcome.ensures.replied
    (λ info w. (w.2, lookup w.1 c.requires.lookup (c.requires.answered (search rules)) (ap result_of c.in-Continue.is) w.3 w.4 w.5 w.6, w.7))

pub returns-in-Break-clause-replied : goal.returns-in-Break-clause-replied
returns-in-Break-clause-replied g c =
    if_ok_map c.answer_outcome-in-Break.result _ _ c.answer_outcome-in-Break.ensures.replied
    (λ info w. (w.2, lookup w.1 c.requires.lookup (c.requires.answered (search rules)) (ap result_of c.in-Break.is) w.3 w.4 w.5 w.6, w.7))
