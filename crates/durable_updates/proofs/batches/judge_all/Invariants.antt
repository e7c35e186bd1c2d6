-- What is told so far stands before what the rest is told, and so do the entries.
use Rattle.std.proofs.Common.{◌≡◌, List, ◌++◌, length}
use Rattle.hickory_store.specs.updates.UpdatableZone.{UpdatableZone}
use Rattle.journal.specs.Read.{contents}
use Rattle.durable_updates.specs.Batches.{AnswersEach, accepted, bytes_of}
use Rattle.durable_updates.specs.DurableUpdates.{Told}
use Rattle.durable_updates.proofs.Judging.{KeepsOthers}
use Rattle.durable_updates.proofs.batches.judge_all.Given as goal

abbrev pub invariant-loop-rest : goal.invariant-loop-rest
invariant-loop-rest g l = record {
  leads : (told : List Told) (new : UpdatableZone g.row.V.Denot) → AnswersEach g.V.Verifier l.rest told l.zone new → AnswersEach g.V.Verifier l.fn.requests (l.answers.items ++ told) l.fn.zone new;
  written : (told : List Told) → contents l.entries.items ++ bytes_of (accepted l.rest told) ≡ bytes_of (accepted l.fn.requests (l.answers.items ++ told));
  others : KeepsOthers l.fn.zone l.zone;
}

abbrev pub decreases-loop-rest : goal.decreases-loop-rest
decreases-loop-rest g l = length l.rest
