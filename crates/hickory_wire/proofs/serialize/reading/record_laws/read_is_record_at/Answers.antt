use Rattle.wire_reading.proofs.lemmas.serialize.reading.RecordsAgree.{record_read, record_found}
use Rattle.hickory_wire.proofs.serialize.reading.record_laws.read_is_record_at.Goals as goal

pub returns-clause-at : goal.returns-clause-at
returns-clause-at c = λ cursor r next a. (λ h. record_read cursor.bytes cursor.place next r a h, λ e. (record_found cursor r (record cursor { place = next }) a e).0)

pub returns-clause-kept : goal.returns-clause-kept
returns-clause-kept c = λ cursor next r a e. (record_found cursor r next a e).1
