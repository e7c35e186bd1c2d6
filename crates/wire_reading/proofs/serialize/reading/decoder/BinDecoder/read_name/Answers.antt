use Rattle.wire_reading.proofs.lemmas.serialize.reading.NameLaws.{gives_found, gives_fault, gives_only}
use Rattle.wire_reading.proofs.serialize.reading.decoder.BinDecoder.read_name.Goals as goal

pub returns-clause-found : goal.returns-clause-found
returns-clause-found c = gives_found c.next_name.result _ _ c.next_name.ensures

pub returns-clause-fault : goal.returns-clause-fault
returns-clause-fault c = gives_fault c.next_name.result _ _ c.next_name.ensures

pub returns-clause-only : goal.returns-clause-only
returns-clause-only c = gives_only c.next_name.result _ _ c.next_name.ensures
