use Rattle.wire_messages.proofs.lemmas.serialize.layout.HeaderBits.{bits_kept}
use Rattle.wire_reading.proofs.lemmas.serialize.reading.HeaderLaws.{header_stands}
use Rattle.wire_reading.proofs.serialize.reading.message_laws.header_written_is_read.Goals as goal

pub returns-clause-bits : goal.returns-clause-bits
returns-clause-bits c = bits_kept

pub returns-clause-stands : goal.returns-clause-stands
returns-clause-stands c = header_stands
