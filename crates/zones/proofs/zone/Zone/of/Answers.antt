-- The overview is of the zone that is kept.
use Rattle.std.proofs.Common.{subst}
use Rattle.hickory_store.specs.updates.UpdatableZone.{UpdatableZone}
use Rattle.zones.specs.Overviews.{IsOverview}
use Rattle.zones.proofs.zone.Zone.of.Goals as goal

pub invariant_of-result : goal.invariant_of-result
invariant_of-result g c =
    subst (λ (u : UpdatableZone g.row.V.Denot). IsOverview u.zone c.of-overview.result) c.updatable.ensures
    (subst (λ z. IsOverview z c.of-overview.result) c.in_memory.ensures c.of-overview.ensures)
