use Rattle.wire_messages.proofs.lemmas.serialize.reading.LabelSteps.{stands_as_read}
use Rattle.wire_reading.proofs.serialize.reading.decoder.BinDecoder.next_name.Goals as goal

pub keep_name-requires : goal.keep_name-requires
keep_name-requires c = (c.in_ok-name.next, stands_as_read c.self.inside.bytes.now c.self.inside.index c.in_ok-name.next c.in_ok-name.name.labels c.in_ok-name.ensures.gives)
