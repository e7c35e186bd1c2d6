use Rattle.hickory_wire.proofs.lemmas.serialize.writing.WrittenSizes.{written_within, encoded_within}
use Rattle.hickory_wire.proofs.serialize.writing.encoder_laws.what_is_written_keeps_the_limit.Goals as goal

pub returns-clause-written : goal.returns-clause-written
returns-clause-written c = written_within

pub returns-clause-encoded : goal.returns-clause-encoded
returns-clause-encoded c = encoded_within
