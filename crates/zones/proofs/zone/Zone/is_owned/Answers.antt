-- The overview is of the zone that is kept.
use Rattle.std.proofs.Common.{subst}
use Rattle.std.specs.Prelude.{◌↔◌, IsTrue}
use Rattle.zone_answers.specs.Zones.{AreOwners}
use Rattle.zones.specs.ZoneStates.{ZoneState}
use Rattle.zones.proofs.zone.Zone.is_owned.Goals as goal

pub returns : goal.returns
returns g c =
    subst (λ (z : ZoneState g.row.V.Denot). IsTrue c.self.inside.overview.is_owned ↔ AreOwners z.updatable.zone.origin z.updatable.zone.sets) c.self.view_is c.self.invariant.owned
