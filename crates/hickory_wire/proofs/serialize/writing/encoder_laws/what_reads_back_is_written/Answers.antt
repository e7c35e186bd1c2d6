use Rattle.hickory_wire.proofs.lemmas.serialize.writing.ReadingBack.{written_back}
use Rattle.hickory_wire.proofs.serialize.writing.encoder_laws.what_reads_back_is_written.Goals as goal

pub returns : goal.returns
returns c = λ limit reply bytes header queries back fit encoded. written_back back fit encoded
