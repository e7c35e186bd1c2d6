use Rattle.std.proofs.Common.{◌≡◌, false, refl, rules, true}
use Rattle.served_zones.specs.Holding.{Holds}
use Rattle.served_zones.specs.ZoneChanges.ChangeInTurn.{none}
use Rattle.served_zones.proofs.Turns.{only_zones, turn_more}
use Rattle.served_zones.proofs.holding.settle_all.Goals as goal

pub loop-place-init : goal.loop-place-init
loop-place-init g c = (none, refl)

pub loop-place-preserved : goal.loop-place-preserved
loop-place-preserved g c =
    let done : c.settle_updates.result ≡ true = search rules in (
      turn_more (Holds false) c.args.apexes.now c.loop-place.place c.index-apexes-place.result c.args.zones.now.zones c.loop-place.zones.zones
          c.settle_updates.new.zones.zones (search rules) c.index-apexes-place.is c.loop-place.invariant.0 (rw done at c.settle_updates.ensures.settles),
      only_zones c.args.zones.now c.loop-place.zones c.settle_updates.new.zones c.loop-place.invariant.1 c.settle_updates.ensures.others,
    )
