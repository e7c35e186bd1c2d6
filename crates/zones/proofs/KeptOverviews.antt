-- What is known of a zone stays known while only its journal changes.
use Rattle.std.proofs.Common.{◌≡◌, Option, None, subst, sym}
use Rattle.std.specs.Prelude.{IfSome}
use Rattle.hickory_store.specs.updates.UpdatableZone.{UpdatableZone}
use Rattle.durable_updates.specs.Holding.{ZoneInMemory}
use Rattle.hickory_base.specs.zone_store.ZoneAnswers.{MemoryZone}
use Rattle.zone_replies.specs.declared.prepared.Prepared.{Prepared}
use Rattle.zone_replies.specs.representation.PreparedZones.{IsPrepared}
use Rattle.zones.specs.KeptZones.{kept_zone}
use Rattle.zones.specs.Overviews.{IsOverview}
use Rattle.zones.specs.declared.kept.Kept.{Kept}
use Rattle.zones.specs.declared.kept.Kept.TheVariants.{Journal}
use Rattle.zones.specs.declared.overview.Overview.{Overview}

pub journal_changed : {V D : Type 0} (kept : Kept V D) (old new : ZoneInMemory V) (overview : Overview)
    → kept ≡ Journal old → new.updatable ≡ old.updatable → IsOverview (kept_zone kept).updatable.zone overview → IsOverview new.updatable.zone overview
journal_changed {V} {D} kept old new overview is same seen =
    subst (λ (u : UpdatableZone V). IsOverview u.zone overview) (sym same) (subst (λ (k : Kept V D). IsOverview (kept_zone k).updatable.zone overview) is seen)

-- of a zone of which nothing was made, nothing is to be shown
pub unprepared : (prepared : Option Prepared) (zone : MemoryZone) → prepared ≡ None → IfSome prepared (IsPrepared zone)
unprepared prepared zone is = subst (λ (p : Option Prepared). IfSome p (IsPrepared zone)) (sym is) tt
