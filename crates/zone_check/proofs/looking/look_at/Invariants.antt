use Rattle.std.proofs.Common.{◌++◌, List, map, take}
use Rattle.zone_check.specs.Findings.{Selects, at_place}
use Rattle.zone_check.specs.declared.finding.Finding.{Finding}
use Rattle.zone_check.proofs.looking.look_at.Given as goal

abbrev pub invariant-loop-kind : goal.invariant-loop-kind
invariant-loop-kind l = (all : List Finding) → Selects l.zone all l.fn.found.items → Selects l.zone (all ++ map (at_place l.place) (take l.kind-index l.kinds)) l.found.items
