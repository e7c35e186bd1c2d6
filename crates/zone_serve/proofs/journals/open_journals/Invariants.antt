-- The journals so far are opened, and nothing else of the catalog changes.
use Rattle.std.proofs.Common.{◌≡◌, take}
use Rattle.zone_serve.specs.Journals.{AreJournalled, apexes_of}
use Rattle.zone_serve.proofs.journals.open_journals.Given as goal

abbrev pub invariant-loop-place : goal.invariant-loop-place
invariant-loop-place g l = AreJournalled g.D.Disk (take l.place l.arguments) (apexes_of l.opened.items) l.fn.zones.zones l.zones.zones × (l.zones ≡ record l.fn.zones { zones = l.zones.zones })
