use Rattle.wire_messages.specs.serialize.layout.MessageLayout.{QuestionRead}
use Rattle.wire_messages.specs.serialize.reading.RecordReading.{question}
use Rattle.wire_messages.specs.serialize.reading.SectionReading.{section_record}
use Rattle.wire_reading.proofs.lemmas.serialize.reading.CountedItems.{items_both}
use Rattle.wire_reading.proofs.lemmas.serialize.reading.SectionItems.{PlainAt, questions_find, questions_reach, plain_find, plain_reach, plain_parts, plain_whole}
use Rattle.wire_reading.proofs.serialize.reading.message_laws.items_readings.Goals as goal

pub returns-clause-questions : goal.returns-clause-questions
returns-clause-questions c = λ bytes place n queries next a. items_both bytes question (QuestionRead bytes) (questions_find bytes a) (questions_reach bytes a) n place queries next

pub returns-clause-records : goal.returns-clause-records
returns-clause-records c = λ bytes place n records next a.
    let both = items_both bytes section_record (PlainAt bytes) (plain_find bytes a) (plain_reach bytes a) n place records next in
    (λ h. both.0 (plain_whole bytes place records next h.0 h.1, h.2), λ e. let p = both.1 e in let q = plain_parts bytes place records next p.0 in (q.0, q.1, p.1))
