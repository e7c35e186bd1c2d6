use Rattle.std.proofs.Common.{None}
use Rattle.hickory_base.specs.requests.Requests.{information}
use Rattle.hickory_catalog.specs.queries.Queries.{consult_options}
use Rattle.hickory_catalog.proofs.lemmas.queries.OneHandler.{answers_alone, skips_alone}
use Rattle.hickory_catalog.proofs.queries.answer_searched.Goals as goal

pub answer_chained-requires-clause-skipped : goal.answer_chained-requires-clause-skipped
answer_chained-requires-clause-skipped g c =
    let gave = rw c.options_of-options.ensures at c.search.ensures in
    rw c.requires.alone (λ none. (
      1,
      None,
      skips_alone g.H.ZoneHandler c.args.asked.now.request.now (information c.args.asked.now.request.now c.args.asked.now.query.now) (consult_options c.args.edns.now) c.args.handler.now
          c.search.result.0 c.search.result.1 gave none,
    ))

pub answer_chained-requires-clause-answered : goal.answer_chained-requires-clause-answered
answer_chained-requires-clause-answered g c =
    let gave = rw c.options_of-options.ensures at c.search.ensures in
    rw c.requires.alone (λ is.
    answers_alone g.H.ZoneHandler c.args.asked.now.request.now (information c.args.asked.now.request.now c.args.asked.now.query.now) (consult_options c.args.edns.now) c.args.handler.now
    c.search.result.0 c.search.result.1 gave is)
