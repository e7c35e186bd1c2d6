-- Owner names that may own records of a zone stay so.
use Rattle.std.proofs.Common.{◌≡◌, inl, inr, sym, refl, subst, ℕ, Bool, true, false, cond, List, [], ◌∷◌, Option, Some, None, Result}
use Rattle.std.specs.Prelude.{◌↔◌, IsTrue}
use Rattle.std.specs.List.{AllByRecursion}
use Rattle.std.specs.Option.{option_or}
use Rattle.wire_names.specs.rr.domain.DomainName.{DomainName}
use Rattle.wire_names.specs.rr.domain.NameOrder.{Encloses}
use Rattle.wire_messages.specs.rr.RecordSameness.{SameRecord}
use Rattle.wire_messages.specs.serialize.layout.MessageLayout.{ItemsAt}
use Rattle.wire_messages.specs.serialize.layout.RecordLayout.{RecordAt}
use Rattle.wire_messages.specs.declared.rr.tsig.TSigResponseContext.{TSigResponseContext}
use Rattle.hickory_wire.proofs.lemmas.serialize.writing.ReadingBack.{name_labels}
use Rattle.hickory_base.specs.requests.Requests.{ReceivedRequest, TimedRequest}
use Rattle.hickory_base.specs.requests.Updates.{update_of}
use Rattle.hickory_base.specs.zone_store.Lookups.{SignerContext, UpdateResult}
use Rattle.hickory_base.specs.zone_store.ZoneSets.{zone_records}
use Rattle.hickory_base.specs.declared.errors.UpdateFault.{UpdateFault}
use Rattle.hickory_store.specs.updates.Identity.{is_in_zone, same_record}
use Rattle.hickory_store.specs.updates.Prescan.{is_well_formed, prescan_refusal, update_refusal}
use Rattle.hickory_store.specs.updates.Refusals.{unless}
use Rattle.hickory_store.specs.updates.UpdatableZone.{UpdatableZone}
use Rattle.hickory_store.specs.updates.UpdateAnswers.{AnswersUpdate, UpdatesAll}
use Rattle.hickory_store.specs.updates.UpdateLaws.{HoldsIn}
use Rattle.hickory_store.specs.declared.updates.verifier.Verifier.{Ghosts}
use Rattle.zone_answers.specs.Zones.{IsOwner}
use Rattle.durable_updates.specs.DurableUpdates.{AnswersDurably, MayStayUnwritten}
use Rattle.zones.specs.Owners.{AreOwned, IsNamed, IsOfItsBytes, OwnersStay, OwnersStayByRules}
use Rattle.zones.specs.ZoneStates.{ZoneState}
use Rattle.zones.specs.ZoneUpdates.{Updates}
use Rattle.zones.specs.ZoneUpdates.Updates.{granted, not_granted}
use Rattle.zones.proofs.NamesStay.{names_stay, origin_stays}
use Rattle.zones.proofs.OwnerNames.{Records, Resource, same_owner}

first_none : (a b : Option ℕ) → option_or a b ≡ None → a ≡ None
first_none None b e = refl
first_none (Some x) b e = absurd (cc)

rest_none : (a b : Option ℕ) → option_or a b ≡ None → b ≡ None
rest_none None b e = e
rest_none (Some x) b e = absurd (cc)

inside : (b well : Bool) → cond b (unless well 1) (Some 10) ≡ None → b ≡ true
inside true well e = refl
inside false well e = absurd (cc)

-- the names of records that were read of bytes
read_names : (bytes : List ℕ) (rs : Records) (place next : ℕ) → ItemsAt (RecordAt bytes) place rs next → AllByRecursion IsNamed rs
read_names bytes [] place next at = tt
read_names bytes (r ∷ rs) place next at = (record { qualified = at.1.name; labels = name_labels at.1.owner }, read_names bytes rs at.0 next at.2)

module _ (zones : (origin name : DomainName) → IsTrue (is_in_zone origin name) ↔ Encloses origin.labels name.labels) (identity : (a b : Resource) → IsTrue (same_record a b) ↔ SameRecord a b) where
  -- what the prescan takes lies in the zone
  scanned : (o : DomainName) (rs : Records) → AllByRecursion IsNamed rs → prescan_refusal o rs ≡ None → AreOwned o rs
  scanned o [] named e = tt
  scanned o (r ∷ rs) named e = (
    record {
      qualified = named.0.qualified;
      labels = named.0.labels;
      within = (zones o r.name).0 (inside (is_in_zone o r.name) (is_well_formed r) (first_none (update_refusal o r) (prescan_refusal o rs) e));
    },
    scanned o rs named.1 (rest_none (update_refusal o r) (prescan_refusal o rs) e),
  )

  module _ {V : Type 0} (by : Ghosts V) where
    pub stay_named : (request : ReceivedRequest) (now : ℕ) (answer : Result Bool UpdateFault) (context : Option TSigResponseContext) (old new : UpdatableZone V)
        → AllByRecursion IsNamed (update_of request.message).updates → AnswersUpdate true by old (request, now) answer context new → HoldsIn AreOwned old.zone → HoldsIn AreOwned new.zone
    stay_named request now answer context old new named a h =
        subst (λ o. AreOwned o (zone_records new.zone.sets)) (sym (origin_stays by request now answer context old new a))
        (names_stay identity (λ n t. IsOwner old.zone.origin (record { name = n; record_type = t })) (λ n m t same k. same_owner old.zone.origin n m t t same k)
        by request now answer context old new (scanned old.zone.origin (update_of request.message).updates named) a h)

    stay_one : (request : TimedRequest) (answer : UpdateResult) (context : SignerContext) (old new : UpdatableZone V)
        → IsOfItsBytes request.0 → AnswersUpdate true by old request answer context new → HoldsIn AreOwned old.zone → HoldsIn AreOwned new.zone
    stay_one request answer context old new read a h =
        stay_named request.0 request.1 answer context old new (read_names request.0.bytes (update_of request.0.message).updates read.authorities_at read.additionals_at read.authorities) a h

    stay_all : (requests : List TimedRequest) (old new : UpdatableZone V)
        → AllByRecursion (λ r. IsOfItsBytes r.0) requests → UpdatesAll true by requests old new → HoldsIn AreOwned old.zone → HoldsIn AreOwned new.zone
    stay_all [] old new read a h = subst (λ (u : UpdatableZone V). HoldsIn AreOwned u.zone) (sym a) h
    stay_all (request ∷ requests) old new read a h =
        stay_all requests a.0 new read.1 a.2 (stay_one request a.1.0 a.1.1 old a.0 read.0 a.1.3 h)

    pub owners_stay : OwnersStay by
    owners_stay = (stay_one, stay_all)

    -- in a zone with rules and a journal
    by_rules : (request : TimedRequest) (answer : UpdateResult) (context : SignerContext) (old new : ZoneState V)
        → Updates by old request answer context new → IsOfItsBytes request.0 → HoldsIn AreOwned old.updatable.zone → HoldsIn AreOwned new.updatable.zone
    by_rules request answer context old new (granted is made) read h = from made.answers
      where
        from : AnswersDurably (IsTrue old.is_journalled × MayStayUnwritten by old.updatable request) by old.updatable request (answer, context) new.updatable → HoldsIn AreOwned new.updatable.zone
        from (inl done) = stay_one request answer context old.updatable new.updatable read done h
        from (inr unwritten) = subst (λ (u : UpdatableZone V). HoldsIn AreOwned u.zone) (sym unwritten.1) h
    by_rules request answer context old new (not_granted is refused same) read h = subst (λ (z : ZoneState V). HoldsIn AreOwned z.updatable.zone) (sym same) h

    pub owners_stay_by_rules : OwnersStayByRules by
    owners_stay_by_rules = by_rules
