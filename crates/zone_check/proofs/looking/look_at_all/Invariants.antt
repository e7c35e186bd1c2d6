use Rattle.zone_check.specs.Findings.{Selects, all_findings}
use Rattle.zone_check.proofs.looking.look_at_all.Given as goal

abbrev pub invariant-loop-place : goal.invariant-loop-place
invariant-loop-place l = Selects l.zone (all_findings l.place) l.found.items
