use Rattle.std.proofs.Common.{◌++◌, ◌∷◌, [], subst, sym}
use Rattle.zone_check.specs.Findings.{Selects}
use Rattle.zone_check.specs.Findings.Selects.{fails, holds}
use Rattle.zone_check.proofs.Walks.{refused}
use Rattle.zone_check.proofs.looking.look_for.Goals as goal

pub returns-then-held : goal.returns-then-held
returns-then-held c = λ all selected. subst (Selects c.args.zone.now (all ++ c.args.finding ∷ [])) (sym c.in_ok-push.ensures.items) (holds c.args.finding selected (c.in_ok-held.ensures.0 c.if-held.true))

pub returns : goal.returns
returns c = λ all selected. fails c.args.finding selected (λ is. refused c.in_ok-held.held (c.in_ok-held.ensures.1 is) c.if-held.false)
