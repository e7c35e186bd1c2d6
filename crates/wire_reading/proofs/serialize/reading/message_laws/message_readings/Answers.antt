use Rattle.wire_messages.proofs.lemmas.serialize.layout.ByteTexts.{here}
use Rattle.wire_reading.proofs.lemmas.serialize.reading.WholeMessage.{message_found, message_here}
use Rattle.wire_reading.proofs.serialize.reading.message_laws.message_readings.Goals as goal

pub returns-clause-reads : goal.returns-clause-reads
returns-clause-reads c = λ bytes m a. (λ r. message_found bytes a m r.stop r.reads, λ at. record { stop = here bytes at.stop; reads = message_here bytes a m at })

pub returns-clause-stops : goal.returns-clause-stops
returns-clause-stops c = λ bytes m a at. message_here bytes a m at
