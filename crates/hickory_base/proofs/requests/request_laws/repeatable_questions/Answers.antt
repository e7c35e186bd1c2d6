use Rattle.hickory_base.proofs.lemmas.requests.RepeatedQuestions.{in_full, repeatable}
use Rattle.hickory_base.proofs.requests.request_laws.repeatable_questions.Goals as goal

pub returns-clause-read : goal.returns-clause-read
returns-clause-read c = repeatable

pub returns-clause-in_full : goal.returns-clause-in_full
returns-clause-in_full c = in_full
