-- What a zone has once an update was answered: what it had, and what the records of the update bring.
use Rattle.std.proofs.Common.{◌≡◌, ◌∙◌, ap, sym, refl, subst, ℕ, ◌<◌, Bool, true, false, cond, ◌&&◌, ◌||◌, List, [], ◌∷◌, filter, length, Option, Result, arith}
use Rattle.std.specs.Prelude.{◌↔◌, ◌==◌, IsTrue, is_some}
use Rattle.std.specs.List.{AllByRecursion, list_any, slice_index_or}
use Rattle.std.specs.Map.{keys_of}
use Rattle.std.proofs.lemmas.Bool.Decides.{nat_tests}
use Rattle.std.proofs.lemmas.List.{length-map}
use Rattle.std.proofs.lemmas.List.Elements.{All-contains, All-contains_itself, All-from_recursion, recursion_from_All}
use Rattle.wire_names.specs.rr.domain.DomainName.{AreLabels, DomainName, name_len, wire_form}
use Rattle.wire_names.specs.rr.domain.NameOrder.{Encloses, SameName, lower_label, lower_labels, name_eq}
use Rattle.wire_names.proofs.lemmas.rr.domain.SameNames.{eq_from_same, order_from_eq}
use Rattle.wire_names.proofs.lemmas.rr.domain.WireForm.{name_len-wire_form}
use Rattle.wire_messages.specs.rr.RecordData.{type_of}
use Rattle.wire_messages.specs.rr.RecordSameness.{SameRecord}
use Rattle.wire_messages.specs.declared.rr.rr_key.RrKey.{RrKey}
use Rattle.wire_messages.specs.declared.rr.tsig.TSigResponseContext.{TSigResponseContext}
use Rattle.hickory_base.proofs.lemmas.zone_store.ZoneByName.{itself, rrset_found}
use Rattle.hickory_base.specs.requests.Requests.{ReceivedRequest}
use Rattle.hickory_base.specs.requests.Updates.{update_of}
use Rattle.hickory_base.specs.zone_store.ZoneRecords.{existing, is_of}
use Rattle.hickory_base.specs.zone_store.ZoneSets.{AreSetsInOrder, IsZone, zone_records}
use Rattle.hickory_base.specs.declared.errors.UpdateFault.{UpdateFault}
use Rattle.hickory_store.specs.updates.Identity.{same_record}
use Rattle.hickory_store.specs.updates.UpdatableZone.{UpdatableZone}
use Rattle.hickory_store.specs.updates.UpdateAnswers.{AnswersUpdate}
use Rattle.hickory_store.specs.declared.updates.verifier.Verifier.{Ghosts}
use Rattle.zone_answers.proofs.lemmas.names.EnclosedBetween.{same_of}
use Rattle.zone_answers.proofs.lemmas.zones.Features.{wild_of_length}
use Rattle.zone_answers.specs.representation.Features.{AreFeatures, Covers, Includes, IsOfLength, IsWildWithin}
use Rattle.zone_replies.specs.Replies.{as_zone}
use Rattle.zone_answers.specs.Zones.{Exists, HasDname, IsCut, Sets, rrset, wildcard}
use Rattle.zone_answers.specs.declared.features.Features.{Features}
use Rattle.zones.proofs.NamesStay.{names_stay, origin_stays}
use Rattle.zones.proofs.OwnerNames.{Records, Resource, keys_of_records, lower_len, records_of_keys, same_labels}

-- ---- records by name and type

and_both : (a b : Bool) → (a && b) ≡ true → (a ≡ true) × (b ≡ true)
and_both true b h = (refl, h)
and_both false b h = absurd cc

same_number : (a b : ℕ) → (a == b) ≡ true → a ≡ b
same_number a b h = grind (arith, nat_tests)

some_existing : (p : Resource → Bool) (rs : Records) → is_some (existing (filter p rs)) ≡ list_any p rs
some_existing p [] = refl
some_existing p (r ∷ rs) = step (p r) (some_existing p rs)
  where
    step : (b : Bool) → is_some (existing (filter p rs)) ≡ list_any p rs → is_some (existing (cond b (r ∷ filter p rs) (filter p rs))) ≡ (b || list_any p rs)
    step true more = refl
    step false more = more

-- a set stands under a name and type where a record has these
some_set : (sets : Sets) (n : DomainName) (t : ℕ) → AreSetsInOrder sets → IsZone sets → is_some (rrset sets n t) ≡ list_any (is_of n t) (zone_records sets)
some_set sets n t ordered zone = ap is_some (sym (rrset_found n t sets ordered zone)) ∙ some_existing (is_of n t) (zone_records sets)

first_or : (a b : Bool) → a ≡ true → (a || b) ≡ true
first_or true b h = refl
first_or false b h = absurd cc

second_or : (a b : Bool) → b ≡ true → (a || b) ≡ true
second_or true b h = refl
second_or false b h = h

of_itself : (r : Resource) → is_of r.name (type_of r.rdata) r ≡ true
of_itself r = ap (λ b. b && (type_of r.rdata == type_of r.rdata)) (eq_from_same r.name r.name (itself r.name)) ∙ numbers_same (type_of r.rdata)
  where
    numbers_same : (n : ℕ) → (n == n) ≡ true
    numbers_same n = grind (arith, nat_tests)

each_of : (Q : Resource → Type 0) (rs : Records) → ((r : Resource) → list_any (is_of r.name (type_of r.rdata)) rs ≡ true → Q r) → AllByRecursion Q rs
each_of Q [] h = tt
each_of Q (r ∷ rs) h = (
  h r (first_or (is_of r.name (type_of r.rdata) r) (list_any (is_of r.name (type_of r.rdata)) rs) (of_itself r)),
  each_of Q rs (λ q e. h q (second_or (is_of q.name (type_of q.rdata) r) (list_any (is_of q.name (type_of q.rdata)) rs) e)),
)

same_size : (ls ms : List (List ℕ)) → lower_labels ls ≡ lower_labels ms → length (wire_form ls) ≡ length (wire_form ms)
same_size ls ms e = omega (arith, ap name_len e, lower_len ls, lower_len ms, name_len-wire_form ls, name_len-wire_form ms)

same_count : (ls ms : List (List ℕ)) → lower_labels ls ≡ lower_labels ms → length ls ≡ length ms
same_count ls ms e = omega (arith, ap length e, length-map ls lower_label, length-map ms lower_label)

encloses_same : (os : List (List ℕ)) (a b : DomainName) → SameName a b → Encloses os a.labels → Encloses os b.labels
encloses_same os a b same h = record { front = h.front; ends = sym same.labels ∙ h.ends }

module _ (P : DomainName → ℕ → Type 0) (respects : (a b : DomainName) (t : ℕ) → SameName a b → P b t → P a t) where
  -- what is so of all records is so of a name and type that one of them has
  pick : (rs : Records) (n : DomainName) (t : ℕ) → AllByRecursion (λ r. P r.name (type_of r.rdata)) rs → list_any (is_of n t) rs ≡ true → P n t
  pick [] n t h e = absurd cc
  pick (r ∷ rs) n t h e = step (is_of n t r) refl (λ k. pick rs n t h.1 k) e
    where
      step : (b : Bool) → is_of n t r ≡ b → (list_any (is_of n t) rs ≡ true → P n t) → (b || list_any (is_of n t) rs) ≡ true → P n t
      step true is go k =
          let two = and_both (name_eq n r.name) (t == type_of r.rdata) is in
          respects n r.name t (same_of n r.name (order_from_eq n r.name two.0)) (subst (P r.name) (sym (same_number t (type_of r.rdata) two.1)) h.0)
      step false is go k = go k

module _ (identity : (a b : Resource) → IsTrue (same_record a b) ↔ SameRecord a b) {V : Type 0} (by : Ghosts V) (request : ReceivedRequest) (now : ℕ) (answer : Result Bool UpdateFault) (context : Option TSigResponseContext)
    (old new : UpdatableZone V) (a : AnswersUpdate true by old (request, now) answer context new)
    (zone : IsZone old.zone.sets) (ordered : AreSetsInOrder old.zone.sets) (zone_after : IsZone new.zone.sets) (ordered_after : AreSetsInOrder new.zone.sets)
    (less more : Features) (has : AreFeatures (as_zone old.zone) less) (includes : Includes less more) (covers : AllByRecursion (Covers more) (update_of request.message).updates) where
  abbrev origin : DomainName
  origin = old.zone.origin

  -- ---- cuts

  CutCovered : DomainName → ℕ → Type 0
  CutCovered n t = t ≡ 2 → AreLabels n.labels → Encloses origin.labels n.labels → length origin.labels < length n.labels → IsOfLength more.cuts (length (wire_form n.labels))

  cut_respects : (n m : DomainName) (t : ℕ) → SameName n m → CutCovered m t → CutCovered n t
  unfolding CutCovered
  cut_respects n m t same h e labels within below =
      subst (IsOfLength more.cuts) (same_size m.labels n.labels (sym same.labels))
      (h e (same_labels m.labels n.labels (sym same.labels) labels) (encloses_same origin.labels n m same within) (omega (arith, below, same_count n.labels m.labels same.labels)))

  cut_brought : (rs : Records) → AllByRecursion (Covers more) rs → AllByRecursion (λ r. CutCovered r.name (type_of r.rdata)) rs
  unfolding CutCovered
  cut_brought [] k = tt
  cut_brought (r ∷ rs) k = ((λ e labels within below. k.0.cuts e), cut_brought rs k.1)

  cut_before : (r : Resource) → list_any (is_of r.name (type_of r.rdata)) (zone_records old.zone.sets) ≡ true → CutCovered r.name (type_of r.rdata)
  unfolding CutCovered
  cut_before r e is labels within below =
      let servers : is_some (rrset old.zone.sets r.name 2) ≡ true = some_set old.zone.sets r.name 2 ordered zone ∙ subst (λ t. list_any (is_of r.name t) (zone_records old.zone.sets) ≡ true) is e in
      let cut : IsCut (as_zone old.zone) r.name = record { within = within; below_apex = below; servers = servers } in
      includes.cuts.each (length (wire_form r.name.labels)) (has.cuts r.name labels cut)

  cuts_after : AllByRecursion (λ r. CutCovered r.name (type_of r.rdata)) (zone_records new.zone.sets)
  cuts_after =
      names_stay identity CutCovered cut_respects by request now answer context old new (λ _. cut_brought (update_of request.message).updates covers) a
      (each_of (λ r. CutCovered r.name (type_of r.rdata)) (zone_records old.zone.sets) cut_before)

  cuts : (name : DomainName) → AreLabels name.labels → IsCut (as_zone new.zone) name → IsOfLength more.cuts (length (wire_form name.labels))
  unfolding CutCovered
  cuts name labels cut =
      let same : new.zone.origin ≡ old.zone.origin = origin_stays by request now answer context old new a in
      let covered : CutCovered name 2 = pick CutCovered cut_respects (zone_records new.zone.sets) name 2 cuts_after (sym (some_set new.zone.sets name 2 ordered_after zone_after) ∙ cut.servers) in
      covered refl labels (subst (λ (o : DomainName). Encloses o.labels name.labels) same cut.within) (subst (λ (o : DomainName). length o.labels < length name.labels) same cut.below_apex)

  -- ---- DNAMEs

  DnameCovered : DomainName → ℕ → Type 0
  DnameCovered n t = t ≡ 39 → Encloses origin.labels n.labels → more.dnames ≡ true

  dname_respects : (n m : DomainName) (t : ℕ) → SameName n m → DnameCovered m t → DnameCovered n t
  unfolding DnameCovered
  dname_respects n m t same h e within = h e (encloses_same origin.labels n m same within)

  dname_brought : (rs : Records) → AllByRecursion (Covers more) rs → AllByRecursion (λ r. DnameCovered r.name (type_of r.rdata)) rs
  unfolding DnameCovered
  dname_brought [] k = tt
  dname_brought (r ∷ rs) k = ((λ e within. k.0.dnames e), dname_brought rs k.1)

  some_dname : (b : Bool) (name : DomainName) → less.dnames ≡ b → HasDname (as_zone old.zone) name → more.dnames ≡ true
  some_dname true name e d = includes.dnames e
  some_dname false name e d = absurd (has.dnames e name d)

  dname_before : (r : Resource) → list_any (is_of r.name (type_of r.rdata)) (zone_records old.zone.sets) ≡ true → DnameCovered r.name (type_of r.rdata)
  unfolding DnameCovered
  dname_before r e is within =
      let there : is_some (rrset old.zone.sets r.name 39) ≡ true = some_set old.zone.sets r.name 39 ordered zone ∙ subst (λ t. list_any (is_of r.name t) (zone_records old.zone.sets) ≡ true) is e in
      some_dname less.dnames r.name refl (record { within = within; dname = there })

  dnames_after : AllByRecursion (λ r. DnameCovered r.name (type_of r.rdata)) (zone_records new.zone.sets)
  dnames_after =
      names_stay identity DnameCovered dname_respects by request now answer context old new (λ _. dname_brought (update_of request.message).updates covers) a
      (each_of (λ r. DnameCovered r.name (type_of r.rdata)) (zone_records old.zone.sets) dname_before)

  dnames : more.dnames ≡ false → (name : DomainName) → ¬ (HasDname (as_zone new.zone) name)
  unfolding DnameCovered
  dnames none name d =
      let same : new.zone.origin ≡ old.zone.origin = origin_stays by request now answer context old new a in
      let covered : DnameCovered name 39 = pick DnameCovered dname_respects (zone_records new.zone.sets) name 39 dnames_after (sym (some_set new.zone.sets name 39 ordered_after zone_after) ∙ d.dname) in
      let some : more.dnames ≡ true = covered refl (subst (λ (o : DomainName). Encloses o.labels name.labels) same d.within) in
      absurd cc

  -- ---- wildcards

  module _ (encloser : DomainName) (labels : AreLabels encloser.labels) where
    WildCovered : DomainName → ℕ → Type 0
    WildCovered n t = Encloses (wildcard encloser).labels n.labels → IsOfLength more.wildcards (length (wire_form encloser.labels))

    wild_respects : (n m : DomainName) (t : ℕ) → SameName n m → WildCovered m t → WildCovered n t
    unfolding WildCovered
    wild_respects n m t same h within = h (encloses_same (wildcard encloser).labels n m same within)

    one_key : Resource → RrKey
    one_key r = record { name = r.name; record_type = type_of r.rdata }

    wild_brought : (rs : Records) → AllByRecursion (Covers more) rs → AllByRecursion (λ r. WildCovered r.name (type_of r.rdata)) rs
    unfolding WildCovered one_key
    wild_brought [] k = tt
    wild_brought (r ∷ rs) k = (
      (λ within. wild_of_length ((one_key r, []) ∷ []) more.wildcards (All-from_recursion (IsWildWithin more.wildcards) (one_key r ∷ []) (record { stars = k.0.wildcards }, tt)) encloser
          (record { owner = one_key r; held = (0, omega arith, refl); at_or_below = within })),
      wild_brought rs k.1,
    )

    wild_before : AllByRecursion (λ r. WildCovered r.name (type_of r.rdata)) (zone_records old.zone.sets)
    unfolding WildCovered
    wild_before =
        records_of_keys WildCovered wild_respects old.zone.sets zone
        (recursion_from_All (λ (key : RrKey). WildCovered key.name key.record_type) (keys_of old.zone.sets)
        (λ k d lt. (λ within. includes.wildcards.each (length (wire_form encloser.labels)) (has.wildcards encloser labels (record { owner = slice_index_or (keys_of old.zone.sets) k d; held = All-contains_itself (keys_of old.zone.sets) k d lt; at_or_below = within })))))

    wild_after : AllByRecursion (λ r. WildCovered r.name (type_of r.rdata)) (zone_records new.zone.sets)
    wild_after = names_stay identity WildCovered wild_respects by request now answer context old new (λ _. wild_brought (update_of request.message).updates covers) a wild_before

    wild : Exists new.zone.sets (wildcard encloser) → IsOfLength more.wildcards (length (wire_form encloser.labels))
    unfolding WildCovered
    wild x =
        All-contains (λ (key : RrKey). WildCovered key.name key.record_type) (keys_of new.zone.sets) x.owner
        (All-from_recursion (λ (key : RrKey). WildCovered key.name key.record_type) (keys_of new.zone.sets) (keys_of_records WildCovered wild_respects new.zone.sets zone_after wild_after)) x.held x.at_or_below

  pub features_stay : AreFeatures (as_zone new.zone) more
  features_stay = record { cuts = cuts; dnames = dnames; wildcards = λ encloser labels x. wild encloser labels x }
