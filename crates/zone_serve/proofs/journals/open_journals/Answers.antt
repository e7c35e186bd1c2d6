use Rattle.std.proofs.Common.{refl, rules}
use Rattle.zone_serve.specs.Journals.{none}
use Rattle.zone_serve.proofs.Loading.{journals_more, zones_alone}
use Rattle.zone_serve.proofs.journals.open_journals.Goals as goal

pub loop-place-init : goal.loop-place-init
loop-place-init g c = (rw c.new-opened.ensures.items none, refl)

pub loop-place-preserved : goal.loop-place-preserved
loop-place-preserved g c = (
  rw c.in_ok-push.ensures.items
      (journals_more g.D.Disk c.args.arguments.now c.loop-place.place _ c.loop-place.opened.items c.in_ok-one.one c.args.zones.now.zones c.loop-place.zones.zones c.open_one.new.zones.zones
      (search rules) c.loop-place.invariant.0 c.in_ok-one.ensures.opened),
  zones_alone c.args.zones.now c.loop-place.zones c.open_one.new.zones c.loop-place.invariant.1 c.in_ok-one.ensures.others,
)
