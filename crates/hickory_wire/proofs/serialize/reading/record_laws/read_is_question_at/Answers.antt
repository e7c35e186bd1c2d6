use Rattle.wire_reading.proofs.lemmas.serialize.reading.RecordsAgree.{question_read, question_found}
use Rattle.hickory_wire.proofs.serialize.reading.record_laws.read_is_question_at.Goals as goal

pub returns-clause-stands : goal.returns-clause-stands
returns-clause-stands c = λ bytes floor place next q f at. question_read floor bytes place next q f at

pub returns-clause-at : goal.returns-clause-at
returns-clause-at c = λ cursor q next a. (λ h. question_read 0 cursor.bytes cursor.place next q h.1 h.0, λ e. let f = question_found cursor q (record cursor { place = next }) a e in (f.0, f.1))

pub returns-clause-kept : goal.returns-clause-kept
returns-clause-kept c = λ cursor next q a e. (question_found cursor q next a e).2
