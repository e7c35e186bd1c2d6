use Rattle.text_data.proofs.decimals.metres.Goals as goal

pub returns-clause-none : goal.returns-clause-none
returns-clause-none c = rw c.without_metres.ensures at c.decimal.ensures.none
