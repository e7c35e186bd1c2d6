use Rattle.hickory_wire.proofs.lemmas.serialize.writing.WrittenMessage.{message_stands, written_reads}
use Rattle.hickory_wire.proofs.serialize.writing.encoder_laws.what_is_written_is_read.Goals as goal

pub returns-clause-stands : goal.returns-clause-stands
returns-clause-stands c = λ limit reply bytes fronts queries w d. message_stands limit reply bytes fronts queries w d

pub returns-clause-reads : goal.returns-clause-reads
returns-clause-reads c = λ limit reply bytes fronts queries a w d. written_reads limit reply bytes fronts queries w d a
