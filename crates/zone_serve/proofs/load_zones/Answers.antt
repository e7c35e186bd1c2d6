use Rattle.std.proofs.Common.{refl, rules}
use Rattle.zone_serve.specs.Catalogs.{none}
use Rattle.zone_serve.proofs.Loading.{zones_alone, zones_more}
use Rattle.zone_serve.proofs.load_zones.Goals as goal

pub loop-place-init : goal.loop-place-init
loop-place-init g c = (rw c.new-apexes.ensures.items none, refl)

pub loop-place-preserved : goal.loop-place-preserved
loop-place-preserved g c = (
  rw c.in_ok-push.ensures.items
      (zones_more _ _ c.args.arguments.now c.loop-place.place _ c.loop-place.apexes.items c.in_ok-load.field-0 c.args.catalog.now.zones c.loop-place.catalog.zones c.load.new.catalog.zones
      (search rules) c.loop-place.invariant.0 c.in_ok-load.ensures.loaded),
  zones_alone c.args.catalog.now c.loop-place.catalog c.load.new.catalog c.loop-place.invariant.1 c.in_ok-load.ensures.others,
)
