-- The requests before the one at hand were answered.
use Rattle.std.proofs.Common.{false, take}
use Rattle.hickory_store.specs.updates.UpdateAnswers.{UpdatesAll}
use Rattle.hickory_store.proofs.updates.handler.UpdatableZoneHandler.update_all.Given as goal

abbrev pub invariant-loop-n : goal.invariant-loop-n
invariant-loop-n g l = UpdatesAll false g.V.Verifier (take l.n l.requests) l.fn.self l.self
