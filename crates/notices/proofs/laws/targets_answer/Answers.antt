-- A test of several parts holds where all of them hold.
use Rattle.notices.proofs.Answering.{answer_ends, is_answer}
use Rattle.notices.proofs.laws.targets_answer.Goals as goal

pub returns-clause-answered : goal.returns-clause-answered
returns-clause-answered c = λ from m n. is_answer c.name_comparisons.ensures.equal from m n

pub returns-clause-ends : goal.returns-clause-ends
returns-clause-ends c = λ from m old new n taken. answer_ends c.name_comparisons.ensures.equal from m old new n taken
