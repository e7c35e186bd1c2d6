-- In the zone as its updates left it.
use Rattle.std.proofs.Common.{subst, sym}
use Rattle.hickory_store.specs.updates.UpdatableZone.{UpdatableZone}
use Rattle.zones.specs.Overviews.{IsOverview}
use Rattle.zones.proofs.handler.ZoneZoneHandler.search_whole.Goals as goal

pub search_whole-requires : goal.search_whole-requires
search_whole-requires g c =
    subst (λ z. IsOverview z c.self.inside.overview) (sym c.in_memory-zone.ensures)
    (subst (λ (u : UpdatableZone g.row.V.Denot). IsOverview u.zone c.self.inside.overview) (sym c.updatable.ensures) c.self.invariant)
