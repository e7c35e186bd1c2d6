use Rattle.std.proofs.Common.{ap}
use Rattle.hickory_store.specs.declared.updates.verifier.Verifier.{Ghosts}
use Rattle.zones.specs.Laws.{ChangesAreGranted, RulesStay}
use Rattle.zones.specs.ZoneStates.{ZoneState}
use Rattle.zones.specs.ZoneUpdates.Updates.{granted, not_granted}
use Rattle.zones.proofs.laws.changes_are_granted.Goals as goal

by_grant : {V : Type 0} (by : Ghosts V) → ChangesAreGranted by
by_grant by request answer context old new (granted is made) other = is
by_grant by request answer context old new (not_granted is refused same) other = absurd (other same)

stay : {V : Type 0} (by : Ghosts V) → RulesStay by
stay {V} by request answer context old new (granted is made) =
    (ap (λ (z : ZoneState V). z.policy) made.others, ap (λ (z : ZoneState V). z.is_journalled) made.others, ap (λ (z : ZoneState V). z.holds) made.others)
stay {V} by request answer context old new (not_granted is refused same) =
    (ap (λ (z : ZoneState V). z.policy) same, ap (λ (z : ZoneState V). z.is_journalled) same, ap (λ (z : ZoneState V). z.holds) same)

pub returns-clause-granted : goal.returns-clause-granted
returns-clause-granted g c = by_grant g.V.Verifier

pub returns-clause-rules : goal.returns-clause-rules
returns-clause-rules g c = stay g.V.Verifier
