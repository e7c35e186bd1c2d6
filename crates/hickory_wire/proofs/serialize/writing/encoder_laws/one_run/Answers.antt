use Rattle.wire_writing.specs.serialize.writing.Writing.{header_and_questions}
use Rattle.hickory_wire.proofs.lemmas.serialize.writing.OneRun.{one_run}
use Rattle.hickory_wire.proofs.serialize.writing.encoder_laws.one_run.Goals as goal

pub returns-clause-written : goal.returns-clause-written
returns-clause-written c = λ limit reply bytes fronts w. one_run limit (header_and_questions reply) w.body reply fronts w.lists w.owners

pub returns-clause-stuck : goal.returns-clause-stuck
returns-clause-stuck c = λ limit reply e s. one_run limit (header_and_questions reply) s.body reply s.put s.lists s.owners
