use Rattle.std.proofs.Common.{inl, inr}
use Rattle.wire_reading.specs.serialize.reading.MessageReading.{message, front_of}
use Rattle.wire_reading.proofs.lemmas.serialize.reading.FaultSteps.{one_way, not_both, goes_or_fails}
use Rattle.wire_reading.proofs.lemmas.serialize.reading.MessageFaultLaws.{message_err, err_message}
use Rattle.wire_reading.proofs.serialize.reading.fault_laws.message_faults.Goals as goal

pub returns-clause-met : goal.returns-clause-met
returns-clause-met c = λ bytes e a. (λ f. err_message a f, λ h. message_err bytes a e h)

pub returns-clause-either : goal.returns-clause-either
returns-clause-either c = λ bytes a. elim (goes_or_fails (message (front_of bytes))) [
  | inl x ↦ inl (x.0.0, record { stop = x.0.1; reads = x.1 })
  | inr e ↦ inr (e.0, message_err bytes a e.0 e.1)
]

pub returns-clause-never_both : goal.returns-clause-never_both
returns-clause-never_both c = λ bytes m e a r f. not_both (message (front_of bytes)) (m, r.stop) e r.reads (err_message a f)

pub returns-clause-one : goal.returns-clause-one
returns-clause-one c = λ bytes d e a f g. one_way (message (front_of bytes)) d e (err_message a f) (err_message a g)
