use Rattle.std.proofs.Common.{refl}
use Rattle.wire_reading.proofs.lemmas.serialize.reading.NameLaws.{name_found, name_fault, found_name, fault_name}
use Rattle.wire_messages.proofs.lemmas.serialize.layout.Stable.{NameAt-keeps, LabelsAt-same}
use Rattle.wire_reading.proofs.serialize.reading.name_laws.name_readings.Goals as goal

pub returns-clause-at : goal.returns-clause-at
returns-clause-at c = λ cursor n next. (λ h. found_name 0 cursor n next h.1 h.0, λ e. name_found cursor n (record cursor { place = next }) e)

pub returns-clause-fault : goal.returns-clause-fault
returns-clause-fault c = λ cursor e. (λ h. fault_name cursor e h, λ h. name_fault cursor e h)

pub returns-clause-keeps : goal.returns-clause-keeps
returns-clause-keeps c = λ old new floor lower place next n k le h. NameAt-keeps k le h

pub returns-clause-one : goal.returns-clause-one
returns-clause-one c = λ bytes floor place p q m n a b. LabelsAt-same refl a.labels b.labels
