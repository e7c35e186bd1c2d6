-- So far each `*` has so many octets behind it.
use Rattle.std.proofs.Common.{◌≡◌, ◌<◌, ◌-◌, ℕ, get_or, length}
use Rattle.zone_answers.specs.representation.Features.{IsOfLength}
use Rattle.zone_answers.proofs.features.are_stars_within.Given as goal

abbrev pub invariant-loop-i : goal.invariant-loop-i
invariant-loop-i l = (k : ℕ) → k < l.i → get_or l.bytes k 0 ≡ 42 → IsOfLength l.lengths (length l.bytes - k - 1)
