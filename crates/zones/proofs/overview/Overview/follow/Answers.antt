-- The overview follows the update, or is made again.
use Rattle.std.proofs.Common.{Option, subst, sym}
use Rattle.std.specs.Prelude.{IfSome}
use Rattle.hickory_base.specs.zone_store.ZoneAnswers.{MemoryZone}
use Rattle.zone_replies.specs.declared.prepared.Prepared.{Prepared}
use Rattle.zone_replies.specs.representation.PreparedZones.{IsPrepared}
use Rattle.zones.specs.Overviews.{IsOverview}
use Rattle.zones.proofs.overview.Overview.follow.Goals as goal

pub returns-then-is_worn : goal.returns-then-is_worn
returns-then-is_worn g c = λ old now answer context zone ordered gives seen.
    subst (λ (z : MemoryZone). IsOverview z c.of.result) c.in_memory.ensures c.of.ensures

pub returns-else-is_worn : goal.returns-else-is_worn
returns-else-is_worn g c = λ old now answer context zone ordered gives seen.
    let prepared : IfSome c.take-prepared.result (IsPrepared old.zone) = subst (λ (p : Option Prepared). IfSome p (IsPrepared old.zone)) (sym c.take-prepared.ensures.value) seen.prepared in
    c.after.ensures old now answer context zone ordered gives (record { has = seen.has; owned = seen.owned; prepared = prepared })
