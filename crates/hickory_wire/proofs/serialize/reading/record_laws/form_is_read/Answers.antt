use Rattle.wire_reading.proofs.lemmas.serialize.reading.FormIsRead.{form_read}
use Rattle.hickory_wire.proofs.serialize.reading.record_laws.form_is_read.Goals as goal

pub returns : goal.returns
returns c = λ bytes floor place next r f at. form_read floor bytes place next r f at
