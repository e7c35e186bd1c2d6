use Rattle.hickory_wire.proofs.lemmas.serialize.writing.ReadingBack.{reads_back, back_is_formed}
use Rattle.wire_messages.proofs.lemmas.serialize.layout.Ranges.{record_formed, record_parts}
use Rattle.hickory_wire.proofs.serialize.reading.record_laws.reading_back.Goals as goal

pub returns-clause-records : goal.returns-clause-records
returns-clause-records c = λ r. (back_is_formed r, λ h. reads_back r h.0 h.1 h.2 h.3)

pub returns-clause-parts : goal.returns-clause-parts
returns-clause-parts c = λ r. (record_parts r, λ h. record_formed r h.0 h.1 h.2 h.3)
