-- In the zone as its updates left it.
use Rattle.std.proofs.Common.{subst, sym}
use Rattle.hickory_store.specs.updates.UpdatableZone.{UpdatableZone}
use Rattle.zones.specs.Overviews.{IsOverview}
use Rattle.zones.specs.ZoneQueries.{LookedUp}
use Rattle.zones.specs.ZoneStates.{ZoneState}
use Rattle.zones.proofs.handler.ZoneZoneHandler.lookup.Goals as goal

pub lookup-requires : goal.lookup-requires
lookup-requires g c =
    subst (λ z. IsOverview z c.self.inside.overview) (sym c.in_memory-zone.ensures)
    (subst (λ (u : UpdatableZone g.row.V.Denot). IsOverview u.zone c.self.inside.overview) (sym c.updatable.ensures) c.self.invariant)

pub returns : goal.returns
returns g c =
    subst (λ (z : ZoneState g.row.V.Denot). LookedUp z.updatable.zone c.args.name.now c.args.record_type c.lookup.result) c.self.view_is
    (subst (λ (u : UpdatableZone g.row.V.Denot). LookedUp u.zone c.args.name.now c.args.record_type c.lookup.result) c.updatable.ensures
    (subst (λ z. LookedUp z c.args.name.now c.args.record_type c.lookup.result) c.in_memory-zone.ensures c.lookup.ensures))
