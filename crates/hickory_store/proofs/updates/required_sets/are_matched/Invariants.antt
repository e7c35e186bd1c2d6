-- The records match where the rest of them do. The rest gets shorter.
use Rattle.std.proofs.Common.{◌≡◌, length}
use Rattle.hickory_base.specs.zone_store.ZoneSets.{zone_records}
use Rattle.hickory_store.specs.updates.Prerequisites.{collected}
use Rattle.hickory_store.specs.representation.SetsByRecord.{are_matched}
use Rattle.hickory_store.proofs.updates.required_sets.are_matched.Given as goal

abbrev pub invariant-loop-rest : goal.invariant-loop-rest
invariant-loop-rest l =
    are_matched (zone_records l.zone.sets) (collected l.prerequisites) (collected l.rest)
    ≡ are_matched (zone_records l.zone.sets) (collected l.prerequisites) (collected l.prerequisites)

abbrev pub decreases-loop-rest : goal.decreases-loop-rest
decreases-loop-rest l = length l.rest
