use Rattle.std.proofs.Common.{arith}
use Rattle.hickory_catalog.proofs.lemmas.queries.OneHandler.{first_and_others, only_one}
use Rattle.hickory_catalog.proofs.queries.answer_lookup.Goals as goal

pub answer_alone-requires-clause-alone : goal.answer_alone-requires-clause-alone
answer_alone-requires-clause-alone g c = only_one c.args.asked.now.chain.now c.handler-item.result c.in-len1.len_at_least c.in-len1.len_below c.handler-item.is

pub answer_by_several-requires-clause-chain : goal.answer_by_several-requires-clause-chain
answer_by_several-requires-clause-chain g c = first_and_others c.args.asked.now.chain.now c.first-item.result (omega (arith, c.in-len1-up.len_at_least)) c.first-item.is
