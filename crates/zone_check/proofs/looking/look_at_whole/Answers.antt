use Rattle.std.proofs.Common.{◌∷◌, [], subst, sym}
use Rattle.zone_check.specs.Findings.{Selects, of_zone}
use Rattle.zone_check.specs.Findings.Selects.{none}
use Rattle.zone_check.specs.declared.finding.Kind.TheVariants as kind
use Rattle.zone_check.proofs.looking.look_at_whole.Goals as goal

pub returns : goal.returns
returns c = c.in_ok-look_for-2.ensures (of_zone kind.NoSoa ∷ []) (c.in_ok-look_for.ensures [] (subst (Selects c.args.zone.now []) (sym c.new-found.ensures.items) none))
