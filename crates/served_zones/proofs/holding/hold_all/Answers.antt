use Rattle.std.proofs.Common.{refl, rules}
use Rattle.served_zones.specs.Holding.{Begins}
use Rattle.served_zones.specs.ZoneChanges.ChangeInTurn.{none}
use Rattle.served_zones.proofs.Turns.{only_zones, turn_more}
use Rattle.served_zones.proofs.holding.hold_all.Goals as goal

pub loop-place-init : goal.loop-place-init
loop-place-init g c = (none, refl)

pub loop-place-preserved : goal.loop-place-preserved
loop-place-preserved g c = (
  turn_more Begins c.args.apexes.now c.loop-place.place c.index-apexes-place.result c.args.zones.now.zones c.loop-place.zones.zones c.hold_updates.new.zones.zones
      (search rules) c.index-apexes-place.is c.loop-place.invariant.0 c.hold_updates.ensures.begins,
  only_zones c.args.zones.now c.loop-place.zones c.hold_updates.new.zones c.loop-place.invariant.1 c.hold_updates.ensures.others,
)
