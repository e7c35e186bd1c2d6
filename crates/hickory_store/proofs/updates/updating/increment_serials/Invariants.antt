-- The serials of the records before are incremented.
use Rattle.std.proofs.Common.{◌≡◌, ◌++◌, map, take, drop}
use Rattle.hickory_store.specs.updates.UpdateAnswers.{incremented}
use Rattle.hickory_store.proofs.updates.updating.increment_serials.Given as goal

abbrev pub invariant-loop-q : goal.invariant-loop-q
invariant-loop-q l = l.records ≡ map (incremented l.origin) (take l.q-index l.fn.records) ++ drop l.q-index l.fn.records
