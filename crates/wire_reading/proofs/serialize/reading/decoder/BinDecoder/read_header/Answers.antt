use Rattle.wire_reading.proofs.lemmas.serialize.reading.HeaderReadings.{header_is_found, header_fault, header_only}
use Rattle.wire_reading.proofs.serialize.reading.decoder.BinDecoder.read_header.Goals as goal

pub returns-clause-found : goal.returns-clause-found
returns-clause-found c = header_is_found _ c.message-message.ensures.bytes c.next_header.result _ c.next_header.ensures.exact

pub returns-clause-fault : goal.returns-clause-fault
returns-clause-fault c = header_fault _ c.next_header.result _ c.next_header.ensures.fault c.next_header.ensures.exact

pub returns-clause-only : goal.returns-clause-only
returns-clause-only c = header_only _ c.next_header.result _ c.next_header.ensures.fault c.next_header.ensures.exact
