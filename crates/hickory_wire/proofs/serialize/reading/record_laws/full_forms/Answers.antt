use Rattle.std.proofs.Common.{refl}
use Rattle.wire_writing.proofs.lemmas.serialize.writing.FullForms.{record_octets-len, record_stands}
use Rattle.wire_writing.proofs.lemmas.serialize.writing.FormLengths.{small_form}
use Rattle.hickory_wire.proofs.serialize.reading.record_laws.full_forms.Goals as goal

pub returns-clause-size : goal.returns-clause-size
returns-clause-size c = record_octets-len

pub returns-clause-stands : goal.returns-clause-stands
returns-clause-stands c = λ bytes floor place r owner names formed low s. record_stands bytes floor place _ r owner names (small_form r.rdata formed) low s refl
