use Rattle.wire_reading.proofs.lemmas.serialize.reading.RecordsAgree.{one_record_read, one_record_formed, one_question}
use Rattle.hickory_wire.proofs.serialize.reading.record_laws.one_record.Goals as goal

pub returns-clause-read : goal.returns-clause-read
returns-clause-read c = one_record_read

pub returns-clause-formed : goal.returns-clause-formed
returns-clause-formed c = one_record_formed

pub returns-clause-question : goal.returns-clause-question
returns-clause-question c = one_question
