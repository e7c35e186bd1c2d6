use Rattle.wire_reading.proofs.lemmas.serialize.reading.SectionFaults.{questions_err, err_questions, records_err, err_records, additionals_err, err_additionals}
use Rattle.wire_reading.proofs.serialize.reading.fault_laws.section_faults.Goals as goal

pub returns-clause-questions : goal.returns-clause-questions
returns-clause-questions c = λ bytes place n e a. (λ f. err_questions a f, λ h. questions_err bytes a n place e h)

pub returns-clause-records : goal.returns-clause-records
returns-clause-records c = λ bytes place n e a. (λ f. err_records a f, λ h. records_err bytes a n place e h)

pub returns-clause-additionals : goal.returns-clause-additionals
returns-clause-additionals c = λ bytes place n e a. (λ f. err_additionals a f, λ h. additionals_err bytes a n place e h)
