use Rattle.std.proofs.Common.{sym, ap, ◌∙◌}
use Rattle.wire_messages.specs.serialize.reading.Cursor.{Cursor}
use Rattle.wire_reading.specs.declared.op.message.Message.{Message}
use Rattle.wire_messages.proofs.lemmas.serialize.layout.ByteTexts.{here}
use Rattle.wire_messages.proofs.lemmas.serialize.reading.StringSteps.{ok_is}
use Rattle.wire_reading.proofs.lemmas.serialize.reading.WholeMessage.{message_here}
use Rattle.wire_reading.proofs.serialize.reading.message_laws.one_message.Goals as goal

pub returns-clause-same : goal.returns-clause-same
returns-clause-same c = λ bytes m n r s. ap (λ (z : Message × Cursor). z.0) (ok_is (m, r.stop) (n, s.stop) (sym r.reads ∙ s.reads))

pub returns-clause-stands : goal.returns-clause-stands
returns-clause-stands c = λ bytes m n a x y.
    ap (λ (z : Message × Cursor). z.0) (ok_is (m, here bytes x.stop) (n, here bytes y.stop) (sym (message_here bytes a m x) ∙ message_here bytes a n y))

pub returns-clause-no_fault : goal.returns-clause-no_fault
returns-clause-no_fault c = λ bytes m e r f. cc

pub returns-clause-one_fault : goal.returns-clause-one_fault
returns-clause-one_fault c = λ bytes d e r f. cc
