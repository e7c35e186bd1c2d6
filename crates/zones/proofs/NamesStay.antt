-- What is so of the owner names and types of a zone's records, and of those that an update brings, is so once the
-- update was answered.
use Rattle.std.proofs.Common.{◌≡◌, ◌∙◌, ◌^◌, ap, sym, refl, subst, ℕ, Bool, true, false, cond, not, List, [], ◌∷◌, ◌++◌, filter, map, Option, Some, None, Result, Ok, Err}
use Rattle.std.specs.Prelude.{◌↔◌, IsTrue, nat_le}
use Rattle.std.specs.List.{AllByRecursion, list_any}
use Rattle.std.specs.Option.{is_some}
use Rattle.wire_names.specs.rr.domain.DomainName.{DomainName}
use Rattle.wire_names.specs.rr.domain.NameOrder.{SameName}
use Rattle.wire_messages.specs.rr.RecordData.{type_of}
use Rattle.wire_messages.specs.rr.RecordSameness.{SameRecord}
use Rattle.wire_messages.specs.declared.rr.tsig.TSigResponseContext.{TSigResponseContext}
use Rattle.hickory_base.specs.requests.Requests.{ReceivedRequest}
use Rattle.hickory_base.specs.requests.Updates.{UpdateMessage, update_of}
use Rattle.hickory_base.specs.zone_store.ZoneAnswers.{MemoryZone}
use Rattle.hickory_base.specs.zone_store.ZoneSets.{zone_records}
use Rattle.hickory_base.specs.declared.errors.UpdateFault.{UpdateFault}
use Rattle.hickory_store.specs.updates.Changes.{after_record, after_record_when, after_updates, any_change, counted, in_rrset, is_added, is_deleted_when, is_spared, one_ttl}
use Rattle.hickory_store.specs.updates.Identity.{SameZone, same_record, ttl_at}
use Rattle.hickory_store.specs.updates.Permission.{update_permission}
use Rattle.hickory_store.specs.updates.Prerequisites.{prerequisite_section_refusal}
use Rattle.hickory_store.specs.updates.Prescan.{prescan_refusal}
use Rattle.hickory_store.specs.updates.UpdatableZone.{UpdatableZone}
use Rattle.hickory_store.specs.updates.UpdateAnswers.{AnswersUpdate, IsOutcome, Outcome, Updates, applied, incremented, is_apex_soa, message_outcome, next_data, unless_refused, with_next_serial}
use Rattle.hickory_store.specs.declared.updates.verifier.Verifier.{Ghosts}
use Rattle.hickory_store.proofs.lemmas.updates.UpdatedZones.{next_type, same_type}
use Rattle.zones.proofs.OwnerNames.{Records, Resource, both}

kept : {X : Type 0} (P : X → Type 0) (keep : X → Bool) (z : List X) → AllByRecursion P z → AllByRecursion P (filter keep z)
kept P keep [] h = tt
kept P keep (q ∷ z) h = step (keep q) (kept P keep z h.1)
  where
    step : (b : Bool) → AllByRecursion P (filter keep z) → AllByRecursion P (cond b (q ∷ filter keep z) (filter keep z))
    step true more = (h.0, more)
    step false more = more

there : (b : Bool) (t : ℕ) (x : Option ℕ) → b ≡ true → is_some (cond b (Some t) x) ≡ true
there true t x e = refl
there false t x e = absurd (cc)

behind : (b : Bool) (t : ℕ) (x : Option ℕ) → is_some x ≡ true → is_some (cond b (Some t) x) ≡ true
behind true t x e = refl
behind false t x e = e

-- the origin stays
same_origin : (outcome : Outcome) (answer : Result Bool UpdateFault) (old new : MemoryZone) → Updates outcome answer old new → new.origin ≡ old.origin
same_origin outcome (Ok changed) old new u = ap (λ (z : MemoryZone). z.origin) u.1
same_origin outcome (Err fault) old new u = ap (λ (z : MemoryZone). z.origin) u.1

pub origin_stays : {V : Type 0} (by : Ghosts V) (request : ReceivedRequest) (now : ℕ) (answer : Result Bool UpdateFault) (context : Option TSigResponseContext) (old new : UpdatableZone V)
    → AnswersUpdate true by old (request, now) answer context new → new.zone.origin ≡ old.zone.origin
origin_stays by request now answer context old new a =
    same_origin (message_outcome true (update_permission by old.verifier old.allow_update request now).refusal old.zone (update_of request.message)) answer old.zone new.zone a.0

module _ (identity : (a b : Resource) → IsTrue (same_record a b) ↔ SameRecord a b) (P : DomainName → ℕ → Type 0) (respects : (a b : DomainName) (t : ℕ) → SameName a b → P b t → P a t) where
  abbrev pub Of : Resource → Type 0
  Of r = P r.name (type_of r.rdata)

  abbrev pub AllOf : Records → Type 0
  AllOf rs = AllByRecursion Of rs

  -- ---- what the records of an update leave

  with_ttl : (ttl : ℕ) (q : Resource) (b : Bool) → Of q → Of (cond b (record q { ttl = ttl }) q)
  with_ttl ttl q true h = h
  with_ttl ttl q false h = h

  with_ttls : (r : Resource) (z : Records) → AllOf z → AllOf (one_ttl r z)
  with_ttls r [] h = tt
  with_ttls r (q ∷ z) h = (with_ttl r.ttl q (in_rrset r q) h.0, with_ttls r z h.1)

  settled : (o : DomainName) (z : Records) (r : Resource) (a b : Bool) → Of r → AllOf z → AllOf (after_record_when true o z r a b)
  settled o z r true b k h =
      with_ttls r (filter (λ q. not (is_deleted_when o r true b q)) z ++ r ∷ [])
      (both Of (filter (λ q. not (is_deleted_when o r true b q)) z) (r ∷ []) (kept Of (λ q. not (is_deleted_when o r true b q)) z h) (k, tt))
  settled o z r false b k h = both Of (filter (λ q. not (is_deleted_when o r false b q)) z) [] (kept Of (λ q. not (is_deleted_when o r false b q)) z h) tt

  turned : (o : DomainName) (z : Records) (r : Resource) → Of r → AllOf z → AllOf (after_record true o z r)
  unfolding after_record
  turned o z r k h =
      let q = counted true r in
      settled o z q (is_added true z q) (is_spared true o z q) (with_ttl 0 r (nat_le (2 ^ 31) r.ttl) k) h

  folded : (o : DomainName) (rs z : Records) → AllOf rs → AllOf z → AllOf (after_updates true o z rs)
  folded o [] z k h = h
  folded o (r ∷ rs) z k h = folded o rs (after_record true o z r) k.1 (turned o z r k.0 h)

  next_one : (q : Resource) (b : Bool) → Of q → Of (cond b (record q { rdata = next_data q.rdata }) q)
  next_one q true h = subst (P q.name) (sym (next_type q.rdata)) h
  next_one q false h = h

  nexts : (o : DomainName) (z : Records) → AllOf z → AllOf (map (incremented o) z)
  nexts o [] h = tt
  nexts o (q ∷ z) h = (next_one q (is_apex_soa o q) h.0, nexts o z h.1)

  abbrev Left : Outcome → Type 0
  Left (Ok p) = AllOf p.0
  Left (Err code) = Unit {0}

  found_left : (o : DomainName) (z : Records) (b : Bool) → AllOf z → Left (cond b (Ok (map (incremented o) z, true)) (Err 2))
  found_left o z true h = nexts o z h
  found_left o z false h = tt

  changed_left : (o : DomainName) (rs z : Records) (b : Bool) → AllOf rs → AllOf z → Left (cond b (with_next_serial o (after_updates true o z rs)) (Ok (z, false)))
  changed_left o rs z true k h = found_left o (after_updates true o z rs) (list_any (is_apex_soa o) (after_updates true o z rs)) (folded o rs z k h)
  changed_left o rs z false k h = h

  unless_left : (code : Option ℕ) (outcome : Outcome) → (code ≡ None → Left outcome) → Left (unless_refused code outcome)
  unless_left None outcome h = h refl
  unless_left (Some code) outcome h = tt

  message_left : (refusal : Option ℕ) (zone : MemoryZone) (message : UpdateMessage) → (prescan_refusal zone.origin message.updates ≡ None → AllOf message.updates)
      → AllOf (zone_records zone.sets) → Left (message_outcome true refusal zone message)
  message_left refusal zone message k h =
      let records : Records = zone_records zone.sets in
      let last : Outcome = applied true zone.origin records message.updates true in
      let scan : Option ℕ = prescan_refusal zone.origin message.updates in
      unless_left refusal (unless_refused (prerequisite_section_refusal zone.origin records message.prerequisites) (unless_refused scan last)) (λ _.
      unless_left (prerequisite_section_refusal zone.origin records message.prerequisites) (unless_refused scan last) (λ _.
      unless_left scan last (λ e. changed_left zone.origin message.updates records (any_change true zone.origin records message.updates) (k e) h)))

  -- ---- lists that stand for one zone

  found : (z : Records) (q : Resource) → AllOf z → is_some (ttl_at z q) ≡ true → Of q
  found [] q h e = absurd (cc)
  found (r ∷ z) q h e = step (same_record q r) refl (λ k. found z q h.1 k) e
    where
      step : (b : Bool) → same_record q r ≡ b → (is_some (ttl_at z q) ≡ true → Of q) → is_some (cond b (Some r.ttl) (ttl_at z q)) ≡ true → Of q
      step true same go k =
          let s : SameRecord q r = (identity q r).0 same in
          respects q.name r.name (type_of q.rdata) s.name (subst (P r.name) (sym (same_type q r s)) h.0)
      step false same go k = go k

  itself : (r : Resource) → same_record r r ≡ true
  itself r = (identity r r).1 (record { name = record { labels = refl; marks = refl }; class = refl; rdata = refl })

  members : (Q : Resource → Type 0) (w : Records) → ((q : Resource) → is_some (ttl_at w q) ≡ true → Q q) → AllByRecursion Q w
  members Q [] h = tt
  members Q (r ∷ w) h = (h r (there (same_record r r) r.ttl (ttl_at w r) (itself r)), members Q w (λ q e. h q (behind (same_record q r) r.ttl (ttl_at w q) e)))

  same_zone : (z w : Records) → SameZone z w → AllOf z → AllOf w
  same_zone z w e h = members Of w (λ q k. found z q h (ap is_some (e q) ∙ k))

  outcome_left : (outcome : Outcome) (records : Records) (changed : Bool) → Left outcome → IsOutcome outcome records changed → AllOf records
  outcome_left (Ok p) records changed h e = same_zone p.0 records (λ q. sym (e.0 q)) h
  outcome_left (Err code) records changed h e = absurd e

  updates_left : (outcome : Outcome) (answer : Result Bool UpdateFault) (old new : MemoryZone) → Left outcome → AllOf (zone_records old.sets) → Updates outcome answer old new → AllOf (zone_records new.sets)
  updates_left outcome (Ok changed) old new h k u = outcome_left outcome (zone_records new.sets) changed h u.0
  updates_left outcome (Err fault) old new h k u = subst (λ (z : MemoryZone). AllOf (zone_records z.sets)) (sym u.1) k

  pub names_stay : {V : Type 0} (by : Ghosts V) (request : ReceivedRequest) (now : ℕ) (answer : Result Bool UpdateFault) (context : Option TSigResponseContext) (old new : UpdatableZone V)
      → (prescan_refusal old.zone.origin (update_of request.message).updates ≡ None → AllOf (update_of request.message).updates)
      → AnswersUpdate true by old (request, now) answer context new → AllOf (zone_records old.zone.sets) → AllOf (zone_records new.zone.sets)
  names_stay by request now answer context old new k a h =
      let refusal : Option ℕ = (update_permission by old.verifier old.allow_update request now).refusal in
      updates_left (message_outcome true refusal old.zone (update_of request.message)) answer old.zone new.zone (message_left refusal old.zone (update_of request.message) k h) h a.0
