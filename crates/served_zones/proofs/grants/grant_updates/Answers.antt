use Rattle.std.proofs.Common.{refl, rules}
use Rattle.wire_names.specs.rr.domain.DomainName.{DomainName}
use Rattle.served_zones.specs.Given.{Gives}
use Rattle.served_zones.specs.Grants.{rules_for}
use Rattle.served_zones.specs.ZoneChanges.ChangeInTurn.{none}
use Rattle.served_zones.proofs.Turns.{only_zones, turn_more}
use Rattle.served_zones.proofs.grants.grant_updates.Goals as goal

pub loop-apex-init : goal.loop-apex-init
loop-apex-init g c = (none, refl)

pub loop-apex-preserved : goal.loop-apex-preserved
loop-apex-preserved g c = (
  turn_more (λ (apex : DomainName). Gives c.args.keys.now (rules_for c.args.grants.now apex) apex) c.args.apexes.now c.loop-apex.apex-index c.apex-item.result
      c.args.zones.now.zones c.loop-apex.zones.zones c.grant_zone.new.zones.zones (search rules) c.apex-item.is c.loop-apex.invariant.0 c.in_ok-grant_zone.ensures.given,
  only_zones c.args.zones.now c.loop-apex.zones c.grant_zone.new.zones c.loop-apex.invariant.1 c.in_ok-grant_zone.ensures.others,
)
