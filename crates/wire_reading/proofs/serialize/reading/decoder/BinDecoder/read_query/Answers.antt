use Rattle.wire_reading.proofs.lemmas.serialize.reading.GivesReadings.{query_found, query_fault, query_only}
use Rattle.wire_reading.proofs.serialize.reading.decoder.BinDecoder.read_query.Goals as goal

pub returns-clause-found : goal.returns-clause-found
returns-clause-found c = query_found _ c.message-message.ensures.bytes c.next_query.result _ c.next_query.ensures

pub returns-clause-fault : goal.returns-clause-fault
returns-clause-fault c = query_fault _ c.next_query.result _ c.next_query.ensures

pub returns-clause-only : goal.returns-clause-only
returns-clause-only c = query_only _ c.message-message.ensures.bytes c.next_query.result _ c.next_query.ensures
