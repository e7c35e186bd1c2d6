use Rattle.wire_messages.proofs.lemmas.serialize.layout.FormKeeps.{FormAt-keeps, QuestionAt-keeps}
use Rattle.hickory_wire.proofs.serialize.reading.record_laws.form_keeps.Goals as goal

pub returns-clause-record : goal.returns-clause-record
returns-clause-record c = λ old new floor lower place next r k le h. FormAt-keeps k le h

pub returns-clause-question : goal.returns-clause-question
returns-clause-question c = λ old new floor lower place next q k le h. QuestionAt-keeps k le h
