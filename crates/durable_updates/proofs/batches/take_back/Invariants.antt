-- What was told of the requests so far is taken back.
use Rattle.std.proofs.Common.{◌≡◌, ◌++◌, map, take, drop}
use Rattle.durable_updates.specs.Batches.{told_unwritten}
use Rattle.durable_updates.proofs.batches.take_back.Given as goal

abbrev pub invariant-loop-told : goal.invariant-loop-told
invariant-loop-told l = l.answers ≡ map (told_unwritten l.fault) (take l.told-index l.fn.answers) ++ drop l.told-index l.fn.answers
