use Rattle.std.proofs.Common.{inl, inr}
use Rattle.wire_messages.specs.serialize.reading.RecordReading.{resource}
use Rattle.wire_messages.proofs.lemmas.serialize.layout.ByteTexts.{here}
use Rattle.wire_reading.proofs.lemmas.serialize.reading.FaultSteps.{one_way, not_both, goes_or_fails}
use Rattle.wire_reading.proofs.lemmas.serialize.reading.RecordFaultLaws.{resource_err, err_resource}
use Rattle.wire_reading.proofs.lemmas.serialize.reading.SectionItems.{records_find, records_reach}
use Rattle.wire_reading.proofs.serialize.reading.fault_laws.record_faults.Goals as goal

pub returns-clause-met : goal.returns-clause-met
returns-clause-met c = λ bytes place e a. (λ f. err_resource f, λ h. resource_err bytes a place e h)

pub returns-clause-either : goal.returns-clause-either
returns-clause-either c = λ bytes place a. elim (goes_or_fails (resource (here bytes place))) [
  | inl x ↦ inl (x.0.0, x.0.1.place, (records_find bytes a place x.0.0 x.0.1 x.1).0)
  | inr e ↦ inr (e.0, resource_err bytes a place e.0 e.1)
]

pub returns-clause-never_both : goal.returns-clause-never_both
returns-clause-never_both c = λ bytes place next r e a at f. not_both (resource (here bytes place)) (r, here bytes next) e (records_reach bytes a place r next at) (err_resource f)

pub returns-clause-one : goal.returns-clause-one
returns-clause-one c = λ bytes place d e f g. one_way (resource (here bytes place)) d e (err_resource f) (err_resource g)
