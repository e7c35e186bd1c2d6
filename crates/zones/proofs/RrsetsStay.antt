-- An update leaves the RRsets of names that it does not name, except the SOA at the apex.
use Rattle.std.proofs.Common.{◌≡◌, ◌∙◌, ap, sym, refl, ℕ, Bool, true, false, cond, ◌&&◌, ◌||◌, [], ◌∷◌, filter, map, Option, Some, None, Result, Ok, Err, arith}
use Rattle.std.specs.Prelude.{◌==◌}
use Rattle.std.specs.List.{list_any}
use Rattle.std.specs.Cmp.{IsEquivalence, eq_by_cmp_equiv}
use Rattle.std.proofs.lemmas.Bool.Decides.{nat_tests}
use Rattle.wire_names.specs.rr.domain.DomainName.{DomainName}
use Rattle.wire_names.specs.rr.domain.NameOrder.{name_cmp_total, name_eq}
use Rattle.wire_messages.specs.rr.RecordData.{type_of}
use Rattle.wire_messages.specs.declared.rr.tsig.TSigResponseContext.{TSigResponseContext}
use Rattle.hickory_base.proofs.lemmas.zone_store.ZoneByName.{rrset_found}
use Rattle.hickory_base.specs.requests.Requests.{ReceivedRequest}
use Rattle.hickory_base.specs.requests.Updates.{UpdateMessage, update_of}
use Rattle.hickory_base.specs.zone_store.ZoneAnswers.{MemoryZone}
use Rattle.hickory_base.specs.zone_store.ZoneRecords.{existing, is_at, is_of, rrset}
use Rattle.hickory_base.specs.zone_store.ZoneSets.{AreSetsInOrder, IsZone, zone_records}
use Rattle.hickory_base.specs.declared.errors.UpdateFault.{UpdateFault}
use Rattle.hickory_store.specs.updates.Changes.{after_updates, any_change}
use Rattle.hickory_store.specs.updates.NameUpdates.{of_name}
use Rattle.hickory_store.specs.updates.Permission.{update_permission}
use Rattle.hickory_store.specs.updates.Prerequisites.{prerequisite_section_refusal}
use Rattle.hickory_store.specs.updates.Prescan.{prescan_refusal}
use Rattle.hickory_store.specs.updates.UpdatableZone.{UpdatableZone}
use Rattle.hickory_store.specs.updates.UpdateAnswers.{AnswersUpdate, IsOutcome, Outcome, Updates, applied, incremented, is_apex_soa, message_outcome, next_data, unless_refused, with_next_serial}
use Rattle.hickory_store.specs.declared.updates.verifier.Verifier.{Ghosts}
use Rattle.hickory_store.proofs.lemmas.updates.ChangedSets.{own_rrset}
use Rattle.hickory_store.proofs.lemmas.updates.NamesApart.{fold_by_name}
use Rattle.hickory_store.proofs.lemmas.updates.UpdatedZones.{next_type}
use Rattle.zone_answers.specs.representation.Indexes.{KeepsOthers}
use Rattle.zones.proofs.OwnerNames.{Records, Resource}

names : IsEquivalence name_eq
names = eq_by_cmp_equiv name_cmp_total

both : (a b : Bool) → (a && b) ≡ true → (a ≡ true) × (b ≡ true)
both true b h = (refl, h)
both false b h = absurd cc

same_number : (a b : ℕ) → (a == b) ≡ true → a ≡ b
same_number a b h = grind (arith, nat_tests)

none_step : (n : DomainName) (r : Resource) (rs : Records) (b : Bool) → is_at n r ≡ b → (list_any (is_at n) rs ≡ false → filter (is_at n) rs ≡ []) → (b || list_any (is_at n) rs) ≡ false → cond b (r ∷ filter (is_at n) rs) (filter (is_at n) rs) ≡ []
none_step n r rs true e go h = absurd cc
none_step n r rs false e go h = go h

none_named : (n : DomainName) (rs : Records) → list_any (is_at n) rs ≡ false → of_name n rs ≡ []
none_named n [] h = refl
none_named n (r ∷ rs) h = none_step n r rs (is_at n r) refl (none_named n rs) h

module _ (o n : DomainName) (t : ℕ) (apart : t ≡ 6 → name_eq n o ≡ false) where
  not_asked : (q : Resource) → is_apex_soa o q ≡ true → (b : Bool) → is_of n t q ≡ b → b ≡ false
  not_asked q soa false e = refl
  not_asked q soa true e =
      let own = both (is_at o q) (type_of q.rdata == 6) soa in
      let asked = both (is_at n q) (t == type_of q.rdata) e in
      let six : t ≡ 6 = same_number t (type_of q.rdata) asked.1 ∙ same_number (type_of q.rdata) 6 own.1 in
      let one : name_eq n o ≡ true = names.congr n q.name o asked.0 ∙ names.symm q.name o ∙ own.0 in
      let no : true ≡ false = sym one ∙ apart six in no

  one_step : (q : Resource) (zs ws : Records) (b : Bool) → is_apex_soa o q ≡ b → zs ≡ ws
      → cond (is_of n t (cond b (record q { rdata = next_data q.rdata }) q)) (cond b (record q { rdata = next_data q.rdata }) q ∷ zs) zs ≡ cond (is_of n t q) (q ∷ ws) ws
  one_step q zs ws false e same = ap (λ (w : Records). cond (is_of n t q) (q ∷ w) w) same
  one_step q zs ws true e same =
      let next : is_of n t (record q { rdata = next_data q.rdata }) ≡ is_of n t q = ap (λ k. is_at n q && (t == k)) (next_type q.rdata) in
      let none : is_of n t q ≡ false = not_asked q e (is_of n t q) refl in
      ap (λ b. cond b (record q { rdata = next_data q.rdata } ∷ zs) zs) (next ∙ none) ∙ same ∙ sym (ap (λ b. cond b (q ∷ ws) ws) none)

  serial_apart : (zs : Records) → rrset (map (incremented o) zs) n t ≡ rrset zs n t
  serial_apart [] = refl
  serial_apart (q ∷ zs) = one_step q (rrset (map (incremented o) zs) n t) (rrset zs n t) (is_apex_soa o q) refl (serial_apart zs)

  module _ (rs : Records) (unnamed : list_any (is_at n) rs ≡ false) where
    updates_apart : (z : Records) → rrset (after_updates true o z rs) n t ≡ rrset z n t
    updates_apart z =
        sym (own_rrset n t (after_updates true o z rs))
        ∙ ap (λ (w : Records). rrset w n t) (fold_by_name true o n rs z ∙ ap (after_updates true o (of_name n z)) (none_named n rs unnamed))
        ∙ own_rrset n t z

    module _ (z : Records) where
      abbrev Kept : Outcome → Type 0
      Kept (Ok p) = rrset p.0 n t ≡ rrset z n t
      Kept (Err code) = Unit {0}

      by_serial : (b : Bool) → Kept (cond b (Ok (map (incremented o) (after_updates true o z rs), true)) (Err 2))
      by_serial true = serial_apart (after_updates true o z rs) ∙ updates_apart z
      by_serial false = tt

      by_change : (b : Bool) → Kept (cond b (with_next_serial o (after_updates true o z rs)) (Ok (z, false)))
      by_change true = by_serial (list_any (is_apex_soa o) (after_updates true o z rs))
      by_change false = refl

      unless : (code : Option ℕ) (outcome : Outcome) → Kept outcome → Kept (unless_refused code outcome)
      unless None outcome h = h
      unless (Some code) outcome h = tt

      left : (outcome : Outcome) (records : Records) (changed : Bool) → Kept outcome → IsOutcome outcome records changed → rrset records n t ≡ rrset z n t
      left (Ok p) records changed h e = e.2 n t ∙ h
      left (Err code) records changed h e = absurd e

updates_kept : (n : DomainName) (t : ℕ) (outcome : Outcome) (answer : Result Bool UpdateFault) (old new : MemoryZone)
    → ((records : Records) (changed : Bool) → IsOutcome outcome records changed → rrset records n t ≡ rrset (zone_records old.sets) n t) → Updates outcome answer old new
    → rrset (zone_records new.sets) n t ≡ rrset (zone_records old.sets) n t
updates_kept n t outcome (Ok changed) old new h u = h (zone_records new.sets) changed u.0
updates_kept n t outcome (Err fault) old new h u = ap (λ (z : MemoryZone). rrset (zone_records z.sets) n t) u.1

pub rrsets_stay : {V : Type 0} (by : Ghosts V) (request : ReceivedRequest) (now : ℕ) (answer : Result Bool UpdateFault) (context : Option TSigResponseContext) (old new : UpdatableZone V)
    → AnswersUpdate true by old (request, now) answer context new → IsZone old.zone.sets → AreSetsInOrder old.zone.sets → IsZone new.zone.sets → AreSetsInOrder new.zone.sets
    → KeepsOthers (update_of request.message).updates old.zone.origin old.zone.sets new.zone.sets
rrsets_stay by request now answer context old new a zone ordered zone_after ordered_after n t unnamed apart =
    let message : UpdateMessage = update_of request.message in
    let o : DomainName = old.zone.origin in
    let z : Records = zone_records old.zone.sets in
    let refusal : Option ℕ = (update_permission by old.verifier old.allow_update request now).refusal in
    let last : Outcome = applied true o z message.updates true in
    let scan : Option ℕ = prescan_refusal o message.updates in
    let required : Option ℕ = prerequisite_section_refusal o z message.prerequisites in
    let U = unless o n t apart message.updates unnamed z in
    let kept = U refusal (unless_refused required (unless_refused scan last)) (U required (unless_refused scan last) (U scan last (by_change o n t apart message.updates unnamed z (any_change true o z message.updates)))) in
    sym (rrset_found n t new.zone.sets ordered_after zone_after)
    ∙ ap existing (updates_kept n t (message_outcome true refusal old.zone message) answer old.zone new.zone (λ records changed e. left o n t apart message.updates unnamed z (message_outcome true refusal old.zone message) records changed kept e) a.0)
    ∙ rrset_found n t old.zone.sets ordered zone
