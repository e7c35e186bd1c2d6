-- A zone is followed through an update by the records of the update alone.
use Rattle.std.proofs.Common.{◌≡◌, ℕ, Bool, true, Option, Result, subst}
use Rattle.std.specs.Prelude.{◌↔◌, IsTrue}
use Rattle.std.specs.List.{All}
use Rattle.std.proofs.lemmas.List.Elements.{recursion_from_All}
use Rattle.wire_names.specs.rr.domain.DomainName.{DomainName}
use Rattle.wire_names.specs.rr.domain.NameOrder.{Encloses}
use Rattle.wire_messages.specs.rr.RecordSameness.{SameRecord}
use Rattle.wire_messages.specs.declared.rr.tsig.TSigResponseContext.{TSigResponseContext}
use Rattle.hickory_base.specs.requests.Requests.{ReceivedRequest}
use Rattle.hickory_base.specs.requests.Updates.{update_of}
use Rattle.hickory_base.specs.zone_store.ZoneAnswers.{MemoryZone}
use Rattle.hickory_base.specs.zone_store.ZoneSets.{AreSetsInOrder, IsZone}
use Rattle.hickory_base.specs.declared.errors.UpdateFault.{UpdateFault}
use Rattle.hickory_store.specs.updates.Identity.{is_in_zone, same_record}
use Rattle.hickory_store.specs.updates.UpdatableZone.{UpdatableZone}
use Rattle.hickory_store.specs.updates.UpdateAnswers.{AnswersUpdate}
use Rattle.hickory_store.specs.declared.updates.verifier.Verifier.{Ghosts}
use Rattle.zone_answers.specs.representation.Features.{AreFeatures, Covers, Includes}
use Rattle.zone_replies.specs.Replies.{as_zone}
use Rattle.zone_answers.specs.Zones.{AreOwners}
use Rattle.zone_answers.specs.declared.features.Features.{Features}
use Rattle.zones.specs.Owners.{IsNamed}
use Rattle.zones.proofs.FeaturesStay.{features_stay}
use Rattle.zones.proofs.OwnerNames.{Records, Resource, owners_of_records}
use Rattle.zones.proofs.OwnersStay.{stay_named}

-- what is known of the sets of a zone
pub record AreSets {V : Type 0} (z : UpdatableZone V) : Type 0 where
  pub zone : IsZone z.zone.sets
  pub ordered : AreSetsInOrder z.zone.sets

pub sets_are : {V : Type 0} (z : UpdatableZone V) (zone : MemoryZone) → zone ≡ z.zone → IsZone zone.sets → AreSetsInOrder zone.sets → AreSets z
sets_are z zone e h k = record { zone = subst (λ (m : MemoryZone). IsZone m.sets) e h; ordered = subst (λ (m : MemoryZone). AreSetsInOrder m.sets) e k }

-- what is known of the records of an update
pub record Brings (less more : Features) (updates : Records) : Type 0 where
  pub named : All IsNamed updates
  pub includes : Includes less more
  pub covers : All (Covers more) updates

module _ (zones : (origin name : DomainName) → IsTrue (is_in_zone origin name) ↔ Encloses origin.labels name.labels) (identity : (a b : Resource) → IsTrue (same_record a b) ↔ SameRecord a b)
    {V : Type 0} (by : Ghosts V) (request : ReceivedRequest) (now : ℕ) (answer : Result Bool UpdateFault) (context : Option TSigResponseContext) (old new : UpdatableZone V) (a : AnswersUpdate true by old (request, now) answer context new)
    (before : AreSets old) (after : AreSets new) (less more : Features) (is_owned : Bool) where
  brought : Brings less more (update_of request.message).updates → AreFeatures (as_zone old.zone) less × (IsTrue is_owned ↔ AreOwners old.zone.origin old.zone.sets) → is_owned ≡ true
      → AreFeatures (as_zone new.zone) more × (IsTrue is_owned ↔ AreOwners new.zone.origin new.zone.sets)
  brought b seen owned = (
    features_stay identity by request now answer context old new a before.zone before.ordered after.zone after.ordered less more seen.0 b.includes (recursion_from_All (Covers more) (update_of request.message).updates b.covers),
    (
      λ _. (owners_of_records new.zone.origin new.zone.sets after.zone).1
          (stay_named zones identity by request now answer context old new (recursion_from_All IsNamed (update_of request.message).updates b.named) a
          ((owners_of_records old.zone.origin old.zone.sets before.zone).0 (seen.1.0 owned))),
      λ _. owned,
    ),
  )

  pub followed : (updates : Records) → updates ≡ (update_of request.message).updates → Brings less more updates → AreFeatures (as_zone old.zone) less × (IsTrue is_owned ↔ AreOwners old.zone.origin old.zone.sets) → is_owned ≡ true
      → AreFeatures (as_zone new.zone) more × (IsTrue is_owned ↔ AreOwners new.zone.origin new.zone.sets)
  followed updates e b = brought (subst (Brings less more) e b)
