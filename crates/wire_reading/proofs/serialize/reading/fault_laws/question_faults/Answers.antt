use Rattle.std.proofs.Common.{inl, inr}
use Rattle.wire_messages.specs.serialize.reading.RecordReading.{question}
use Rattle.wire_messages.proofs.lemmas.serialize.layout.ByteTexts.{here}
use Rattle.wire_reading.proofs.lemmas.serialize.reading.FaultSteps.{one_way, not_both, goes_or_fails}
use Rattle.wire_reading.proofs.lemmas.serialize.reading.RecordFaultLaws.{question_err, err_question}
use Rattle.wire_reading.proofs.lemmas.serialize.reading.SectionItems.{questions_find}
use Rattle.wire_reading.proofs.lemmas.serialize.reading.RecordsAgree.{question_read}
use Rattle.wire_reading.proofs.serialize.reading.fault_laws.question_faults.Goals as goal

pub returns-clause-met : goal.returns-clause-met
returns-clause-met c = λ bytes place e. (λ f. err_question f, λ h. question_err bytes place e h)

pub returns-clause-either : goal.returns-clause-either
returns-clause-either c = λ bytes place a. elim (goes_or_fails (question (here bytes place))) [
  | inl x ↦ inl (x.0.0, x.0.1.place, (questions_find bytes a place x.0.0 x.0.1 x.1).0)
  | inr e ↦ inr (e.0, question_err bytes place e.0 e.1)
]

pub returns-clause-never_both : goal.returns-clause-never_both
returns-clause-never_both c = λ bytes place next q e at f. not_both (question (here bytes place)) (q, here bytes next) e (question_read 0 bytes place next q at.formed at.stands) (err_question f)

pub returns-clause-one : goal.returns-clause-one
returns-clause-one c = λ bytes place d e f g. one_way (question (here bytes place)) d e (err_question f) (err_question g)
