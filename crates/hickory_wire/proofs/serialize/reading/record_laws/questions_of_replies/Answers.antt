use Rattle.wire_writing.proofs.lemmas.serialize.writing.QuestionsMoved.{question_repeated, questions_repeated, questions_in_full}
use Rattle.hickory_wire.proofs.serialize.reading.record_laws.questions_of_replies.Goals as goal

pub returns-clause-repeated : goal.returns-clause-repeated
returns-clause-repeated c = question_repeated

pub returns-clause-in_full : goal.returns-clause-in_full
returns-clause-in_full c = questions_in_full

pub returns-clause-several : goal.returns-clause-several
returns-clause-several c = questions_repeated
