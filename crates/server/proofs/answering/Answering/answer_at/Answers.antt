use Rattle.std.proofs.Common.{ap}
use Rattle.server.specs.declared.answering.Answering.{Answering}
use Rattle.server.proofs.answering.Answering.answer_at.Goals as goal

pub returns-in-Ok-clause-ok : goal.returns-in-Ok-clause-ok
returns-in-Ok-clause-ok g c =
    let zones = ap (λ (s : Answering _ _). s.server.server.catalog.zones) c.take_at.ensures.others in
    let log = ap (λ (s : Answering _ _). s.log) c.take_at.ensures.others in
    (c.serve.new.self.pending, rw zones c.in-Ok.ensures.ok, rw c.in-Ok.ensures.start at c.take_at.ensures.put, rw log c.in-Ok.ensures.logged)
