-- So it is with the zones so far, and nothing else of the catalog changes.
use Rattle.std.proofs.Common.{◌≡◌, take}
use Rattle.served_zones.specs.Holding.{AllSettle}
use Rattle.served_zones.proofs.holding.settle_all.Given as goal

abbrev pub invariant-loop-place : goal.invariant-loop-place
invariant-loop-place g l = AllSettle (take l.place l.apexes) l.fn.zones.zones l.zones.zones × (l.zones ≡ record l.fn.zones { zones = l.zones.zones })
