-- As what keeps the zone has it.
use Rattle.std.proofs.Common.{◌≡◌, false, subst}
use Rattle.std.specs.Prelude.{IfSome}
use Rattle.durable_updates.specs.Recorded.{IsDurable}
use Rattle.zones.specs.ZoneStates.{ZoneState}
use Rattle.zones.proofs.zone.Zone.into_parts.Goals as goal

pub returns-clause-durable : goal.returns-clause-durable
returns-clause-durable g c =
    subst (λ (z : ZoneState g.row.V.Denot). IfSome c.into_parts.result.1 (λ journal. z.holds ≡ false → IsDurable g.D.Disk c.into_parts.result.0.zone journal)) c.self.view_is c.into_parts.ensures.durable
