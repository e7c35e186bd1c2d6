-- The records are distinct where the rest is. The rest gets shorter.
use Rattle.std.proofs.Common.{◌↔◌, length}
use Rattle.hickory_base.specs.zone_store.ZoneSets.{AreDistinct}
use Rattle.hickory_base.proofs.zone_store.conditions.are_distinct.Given as goal

abbrev pub invariant-loop-rest : goal.invariant-loop-rest
invariant-loop-rest l = AreDistinct l.rest ↔ AreDistinct l.fn.records

abbrev pub decreases-loop-rest : goal.decreases-loop-rest
decreases-loop-rest l = length l.rest
