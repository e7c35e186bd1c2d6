-- The records before have the TTL.
use Rattle.std.proofs.Common.{◌≡◌, ◌++◌, take, drop}
use Rattle.hickory_store.specs.updates.Changes.{one_ttl}
use Rattle.hickory_store.proofs.updates.changes.give_one_ttl.Given as goal

abbrev pub invariant-loop-q : goal.invariant-loop-q
invariant-loop-q l = l.records ≡ one_ttl l.r (take l.q-index l.fn.records) ++ drop l.q-index l.fn.records
