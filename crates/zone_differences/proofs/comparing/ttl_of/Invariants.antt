-- The record is not among those before.
use Rattle.std.proofs.Common.{◌≡◌, length}
use Rattle.hickory_store.specs.updates.Identity.{ttl_at}
use Rattle.zone_differences.proofs.comparing.ttl_of.Given as goal

abbrev pub invariant-loop-rest : goal.invariant-loop-rest
invariant-loop-rest l = ttl_at l.rest l.r ≡ ttl_at l.fn.records l.r

abbrev pub decreases-loop-rest : goal.decreases-loop-rest
decreases-loop-rest l = length l.rest
