-- The record is not among those before.
use Rattle.std.proofs.Common.{◌≡◌, drop}
use Rattle.hickory_store.specs.updates.Identity.{ttl_at}
use Rattle.hickory_store.proofs.updates.changes.has_with_ttl.Given as goal

abbrev pub invariant-loop-q : goal.invariant-loop-q
invariant-loop-q l = ttl_at (drop l.q-index l.records) l.r ≡ ttl_at l.records l.r
