-- Of the names above this one so far the highest cut is known.
use Rattle.std.proofs.Common.{◌≡◌, ◌-◌, ℕ, length}
use Rattle.std.specs.Option.{option_copied}
use Rattle.hickory_base.specs.zone_store.ZoneSets.{sets_of}
use Rattle.wire_names.specs.rr.domain.DomainName.{label_offset}
use Rattle.zone_answers.proofs.lemmas.zones.CutsAbove.{AboveSoFar}
use Rattle.zone_answers.proofs.find.climb_to_cut.Given as goal

abbrev pub invariant-loop-place : goal.invariant-loop-place
invariant-loop-place l = (seen : ℕ) × (l.place ≡ label_offset l.name.labels seen) × AboveSoFar (record { origin = l.zone.origin.now; sets = sets_of l.zone.sets.now }) l.name seen (option_copied l.highest)

abbrev pub decreases-loop-place : goal.decreases-loop-place
decreases-loop-place l = length l.wire - l.place
