use Rattle.wire_reading.proofs.lemmas.serialize.reading.RecordsAgree.{record_form, formed_record}
use Rattle.hickory_wire.proofs.serialize.reading.record_laws.record_at_has_form.Goals as goal

pub returns-clause-form : goal.returns-clause-form
returns-clause-form c = record_form

pub returns-clause-back : goal.returns-clause-back
returns-clause-back c = λ bytes floor place next r f at. formed_record floor bytes place next r f at
