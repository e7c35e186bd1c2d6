use Rattle.zone_service.proofs.exports.zone_service_answer.Goals as goal

pub returns-clause-told : goal.returns-clause-told
returns-clause-told c = (
  record { number = c.tell_answer-made.result; written = c.tell_answer-made.new.written; out = c.tell_answer-made.new.out },
  rw c.service-service.ensures.value at c.tell_answer-made.ensures.told,
  rw c.service-service.ensures.value at c.limit-number.ensures.limited,
)
