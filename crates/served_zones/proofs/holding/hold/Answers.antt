-- Nothing else of the zone changes.
use Rattle.std.proofs.Common.{ap, subst, sym}
use Rattle.either.specs.declared.Either.TheVariants.{Left}
use Rattle.tsig.specs.declared.verifier.TsigVerifier.{TsigVerifier}
use Rattle.zones.specs.ZoneStates.{ZoneState}
use Rattle.served_zones.specs.Holding.{HandlerHolds}
use Rattle.served_zones.specs.ServedZones.{ServedHandler}
use Rattle.served_zones.proofs.holding.hold.Goals as goal

pub returns-in-Left : goal.returns-in-Left
returns-in-Left g c = (
  c.hold.new.self.holds,
  subst (λ (h : ServedHandler). HandlerHolds c.hold.new.self.holds h (Left c.hold.new.self)) (sym c.in-Left.is)
      (ap (λ (z : ZoneState TsigVerifier). let h : ServedHandler = Left z in h) c.hold.ensures.held),
)
