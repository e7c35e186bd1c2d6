-- The zones so far are loaded, and nothing else of the catalog changes.
use Rattle.std.proofs.Common.{◌≡◌, take, option_map}
use Rattle.zone_serve.specs.Catalogs.{AreLoaded}
use Rattle.zone_serve.proofs.load_zones.Given as goal

abbrev pub invariant-loop-place : goal.invariant-loop-place
invariant-loop-place g l = AreLoaded (g.O.FileOpener.opens l.files) (option_map (λ it. it.now.value) l.list) (take l.place l.arguments) l.apexes.items l.fn.catalog.zones l.catalog.zones
    × (l.catalog ≡ record l.fn.catalog { zones = l.catalog.zones })
