use Rattle.zone_service.proofs.exports.zone_service_answer_stream.Goals as goal

pub returns-clause-told : goal.returns-clause-told
returns-clause-told c = rw c.service-service.ensures.value at c.tell_stream-number.ensures.told
