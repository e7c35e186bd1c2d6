use Rattle.wire_reading.proofs.lemmas.serialize.reading.GivesReadings.{record_is_found, record_fault, record_only}
use Rattle.wire_reading.proofs.serialize.reading.decoder.BinDecoder.read_record.Goals as goal

pub returns-clause-found : goal.returns-clause-found
returns-clause-found c = record_is_found _ c.message-message.ensures.bytes c.next_record.result _ c.next_record.ensures

pub returns-clause-fault : goal.returns-clause-fault
returns-clause-fault c = record_fault _ c.message-message.ensures.bytes c.next_record.result _ c.next_record.ensures

pub returns-clause-only : goal.returns-clause-only
returns-clause-only c = record_only _ c.message-message.ensures.bytes c.next_record.result _ c.next_record.ensures
