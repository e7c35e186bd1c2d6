-- Of the names so far the highest DNAME is known.
use Rattle.std.proofs.Common.{◌≡◌, ◌≤◌, ℕ, length}
use Rattle.hickory_base.specs.zone_store.ZoneSets.{sets_of}
use Rattle.wire_names.specs.rr.domain.NameOrder.{Encloses}
use Rattle.zone_answers.proofs.lemmas.zones.Redirected.{TopSoFar}
use Rattle.zone_answers.specs.Zones.{ancestor}
use Rattle.zone_answers.proofs.redirections.top_dname.Given as goal

abbrev pub invariant-loop-key : goal.invariant-loop-key
invariant-loop-key l =
    (seen : ℕ) × (l.key.name ≡ ancestor l.fn.name seen) × (seen ≤ length l.fn.name.labels) × Encloses l.zone.origin.now.labels l.key.name.labels × TopSoFar (record { origin = l.zone.origin.now; sets = sets_of l.zone.sets.now }) l.fn.name seen l.highest

abbrev pub decreases-loop-key : goal.decreases-loop-key
decreases-loop-key l = length l.key.name.labels
