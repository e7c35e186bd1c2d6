use Rattle.std.proofs.Common.{◌++◌}
use Rattle.wire_messages.proofs.lemmas.serialize.layout.ByteTexts.{here}
use Rattle.wire_reading.proofs.lemmas.serialize.layout.MessageTail.{message_keeps, both_bytes}
use Rattle.wire_messages.proofs.lemmas.serialize.layout.Stable.{KeepsFrom-append}
use Rattle.wire_reading.proofs.lemmas.serialize.reading.WholeMessage.{message_found, message_here}
use Rattle.wire_reading.proofs.serialize.reading.message_laws.reads_ignores_tail.Goals as goal

pub returns : goal.returns
returns c = λ bytes more m a b r.
    let at = message_keeps (KeepsFrom-append 0 bytes more) m (message_found bytes a m r.stop r.reads) in
    record { stop = here (bytes ++ more) at.stop; reads = message_here (bytes ++ more) (both_bytes bytes more a b) m at }
