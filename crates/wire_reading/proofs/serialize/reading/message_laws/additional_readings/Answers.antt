use Rattle.wire_reading.proofs.lemmas.serialize.reading.AdditionalItems.{section_read, section_here}
use Rattle.wire_messages.proofs.lemmas.serialize.layout.ByteTexts.{here}
use Rattle.wire_reading.proofs.serialize.reading.message_laws.additional_readings.Goals as goal

pub returns : goal.returns
returns c = λ bytes place n x next a.
    (λ h. section_here bytes a h.0 n place x next h.2 h.1 h.3, λ e. let s = section_read bytes a n place x (here bytes next) e in (s.all, s.stand, s.count, s.section))
