-- The zone in memory is as before.
use Rattle.std.proofs.Common.{subst, sym}
use Rattle.zones.specs.KeptZones.{KeptZone}
use Rattle.zones.specs.Overviews.{IsOverview}
use Rattle.zones.proofs.zone.Zone.stop_updates.Goals as goal

pub invariant_of-self : goal.invariant_of-self
invariant_of-self g c = subst (λ (k : KeptZone g.row.V.Denot). IsOverview k.updatable.zone c.self.inside.overview) (sym c.shut.ensures) c.self.invariant
