use Rattle.std.proofs.Common.{rules}
use Rattle.hickory_catalog.proofs.queries.answer_in_place.Goals as goal

pub answer_chained-requires-clause-skipped : goal.answer_chained-requires-clause-skipped
answer_chained-requires-clause-skipped g c =
    let final = c.chain_answer.new.answer in
    λ none. (final.place, final.given.1, search rules)
