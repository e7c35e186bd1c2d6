-- Labels were taken off, and no name so far exists.
use Rattle.std.proofs.Common.{◌≡◌, ℕ, ◌<◌, length}
use Rattle.zone_answers.specs.representation.FoundRecords.{Tells}
use Rattle.zone_answers.specs.Zones.{Exists, Sets, ancestor}
use Rattle.signed_answers.proofs.enclosers.keep_closest_encloser.Given as goal

abbrev pub invariant-loop-name : goal.invariant-loop-name
invariant-loop-name l = (off : ℕ) × (l.name ≡ ancestor l.fn.name off) × ((sets : Sets) → Tells sets l.fn.name (record { before = l.before; behind = l.behind }) → (j : ℕ) → j < off → ¬ (Exists sets (ancestor l.fn.name j)))

abbrev pub decreases-loop-name : goal.decreases-loop-name
decreases-loop-name l = length l.name.labels
