use Rattle.wire_writing.proofs.lemmas.serialize.writing.FullForms.{question_octets-len, question_stands}
use Rattle.hickory_wire.proofs.serialize.reading.record_laws.question_forms.Goals as goal

pub returns-clause-size : goal.returns-clause-size
returns-clause-size c = question_octets-len

pub returns-clause-stands : goal.returns-clause-stands
returns-clause-stands c = λ bytes floor place q are low s. question_stands bytes floor place q are low s
