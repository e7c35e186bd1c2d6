-- Without older ones there are none where there are no newer ones.
use Rattle.std.proofs.Common.{◌≡◌, ◌∙◌, List, ap, false, length, sym, true}
use Rattle.std.specs.Prelude.{◌==◌}
use Rattle.zone_differences.specs.declared.difference.Difference.{Difference}
use Rattle.zone_differences.proofs.Following.{front_none}
use Rattle.zone_differences.proofs.history.Steps.is_empty.Goals as goal

pub returns-else-is_empty : goal.returns-else-is_empty
returns-else-is_empty c = (
  λ t. absurd (let e : false ≡ true = sym c.if-is_empty.false ∙ t in cc),
  λ h. c.is_empty.ensures ∙ ap (λ (l : List Difference). length l == 0) (front_none c.args.self.older.now c.args.self.newer.now h),
)
