-- What an update changed is recorded.
use Rattle.std.proofs.Common.{◌≡◌, ◌∙◌, inr, ap, subst, List, [], ◌∷◌, Option, Some, Result, Ok}
use Rattle.std.specs.declared.alloc.AllocError.{AllocError}
use Rattle.hickory_base.specs.zone_store.ZoneAnswers.{MemoryZone}
use Rattle.zone_differences.specs.Histories.{IsFollowed}
use Rattle.zone_differences.specs.Standing.{IsKnown, Leads, Records}
use Rattle.zone_differences.specs.declared.before.Before.{Before}
use Rattle.zone_differences.specs.declared.difference.Difference.{Difference}

pub recorded_known : (before : Result (Option Before) AllocError) (found : Option Before) (b : Before) (new : MemoryZone) (history after : List Difference) (d : Difference)
    → before ≡ Ok found → found ≡ Some b → Leads b new d → IsFollowed history (d ∷ []) after → Records before new history after
recorded_known before found b new history after d is known led put old updates stood made =
    inr (d, led old updates (subst (λ (r : Result (Option Before) AllocError). IsKnown old updates r) (is ∙ ap Ok known) stood) made, put)
