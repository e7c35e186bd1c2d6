-- The zones so far have their rules, and nothing else of the catalog changes.
use Rattle.std.proofs.Common.{◌≡◌, take}
use Rattle.served_zones.specs.Given.{AreGiven}
use Rattle.served_zones.proofs.grants.grant_updates.Given as goal

abbrev pub invariant-loop-apex : goal.invariant-loop-apex
invariant-loop-apex g l = AreGiven l.keys l.grants (take l.apex-index l.apexes) l.fn.zones.zones l.zones.zones × (l.zones ≡ record l.fn.zones { zones = l.zones.zones })
