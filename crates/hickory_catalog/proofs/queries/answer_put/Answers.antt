use Rattle.hickory_catalog.proofs.queries.answer_put.Goals as goal

pub returns-clause-gives : goal.returns-clause-gives
returns-clause-gives g c = rw c.options_of.ensures at (c.search_whole.ensures c.if-not-search_whole.false)

pub returns-clause-sent : goal.returns-clause-sent
returns-clause-sent g c = rw c.message.ensures at c.send_whole.ensures.sent
