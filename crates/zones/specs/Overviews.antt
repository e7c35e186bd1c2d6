-- What is known of a zone as a whole, by which queries are answered in it, and that updates leave this known.
use Rattle.std.specs.Prelude.{◌↔◌, ℕ, IfSome, IsTrue, true}
use Rattle.hickory_base.specs.requests.Requests.{ReceivedRequest}
use Rattle.hickory_base.specs.zone_store.Lookups.{SignerContext, UpdateResult}
use Rattle.hickory_base.specs.zone_store.ZoneAnswers.{MemoryZone}
use Rattle.hickory_base.specs.zone_store.ZoneSets.{AreSetsInOrder, IsZone}
use Rattle.hickory_store.specs.updates.UpdatableZone.{UpdatableZone}
use Rattle.hickory_store.specs.updates.UpdateAnswers.{AnswersUpdate}
use Rattle.hickory_store.specs.declared.updates.verifier.Verifier.{Ghosts}
use Rattle.zone_answers.specs.representation.Features.{AreFeatures}
use Rattle.zone_replies.specs.representation.PreparedZones.{IsPrepared}
use Rattle.zone_replies.specs.Replies.{as_zone}
use Rattle.zone_answers.specs.Zones.{AreOwners}
use Rattle.zones.specs.declared.overview.Overview.{Overview}

-- What the zone has at all, whether each of its owner names may own records of it, and what was made of it, if anything.
pub record IsOverview (zone : MemoryZone) (overview : Overview) : Type 0 where
  pub has : AreFeatures (as_zone zone) overview.has
  pub owned : IsTrue overview.is_owned ↔ AreOwners zone.origin zone.sets
  pub prepared : IfSome overview.prepared (IsPrepared zone)

-- The request may have left the zone `new`. Of each zone that it was answered in, if that zone has the first overview,
-- the zone `new` has the second.
abbrev pub Follows : {V : Type 0} → Ghosts V → ReceivedRequest → UpdatableZone V → Overview → Overview → Type 0
Follows {V} by request new before after =
    (old : UpdatableZone V) (now : ℕ) (answer : UpdateResult) (context : SignerContext)
    → IsZone old.zone.sets → AreSetsInOrder old.zone.sets → AnswersUpdate true by old (request, now) answer context new
    → IsOverview old.zone before → IsOverview new.zone after
