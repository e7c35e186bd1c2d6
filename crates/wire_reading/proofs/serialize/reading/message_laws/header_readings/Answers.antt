use Rattle.wire_reading.proofs.lemmas.serialize.reading.HeaderLaws.{header_here, header_found}
use Rattle.wire_messages.proofs.lemmas.serialize.layout.ByteTexts.{here}
use Rattle.wire_reading.proofs.serialize.reading.message_laws.header_readings.Goals as goal

pub returns : goal.returns
returns c = λ bytes h a. (λ at. header_here bytes h at, λ e. (header_found bytes h (here bytes 12) a e).0)
