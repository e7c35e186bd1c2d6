-- So far each `*` has so many octets behind it, and no length was lost.
use Rattle.std.proofs.Common.{◌≡◌, ◌<◌, ◌-◌, ℕ, get_or, length}
use Rattle.zone_answers.specs.representation.Features.{AreAmong, IsOfLength}
use Rattle.zone_answers.proofs.features.with_stars.Given as goal

abbrev pub invariant-loop-i : goal.invariant-loop-i
invariant-loop-i l = AreAmong l.fn.lengths l.all × ((k : ℕ) → k < l.i → get_or l.bytes k 0 ≡ 42 → IsOfLength l.all (length l.bytes - k - 1))
