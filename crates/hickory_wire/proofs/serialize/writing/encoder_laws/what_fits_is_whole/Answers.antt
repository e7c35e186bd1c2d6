use Rattle.wire_writing.proofs.lemmas.serialize.writing.WholeLists.{written_whole, whole_unstuck}
use Rattle.hickory_wire.proofs.serialize.writing.encoder_laws.what_fits_is_whole.Goals as goal

pub returns : goal.returns
returns c = record { whole = λ limit reply bytes fronts h w. written_whole limit reply bytes fronts h w; unstuck = λ limit reply e h s. whole_unstuck limit reply e h s }
