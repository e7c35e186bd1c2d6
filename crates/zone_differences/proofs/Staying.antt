-- An update leaves the names alone that it does not speak of, but for the apex.
use Rattle.std.proofs.Common.{◌≡◌, ◌∙◌, ap, sym, refl, ℕ, Bool, true, false, cond, [], ◌∷◌, List, map, Option, Some, None, Ok, Err}
use Rattle.std.specs.List.{AllByRecursion, list_any}
use Rattle.wire_names.specs.rr.domain.DomainName.{DomainName}
use Rattle.wire_names.proofs.lemmas.rr.domain.SameNames.{eq_from_same}
use Rattle.hickory_base.specs.zone_store.ZoneAnswers.{MemoryZone}
use Rattle.hickory_base.specs.zone_store.ZoneRecords.{is_at}
use Rattle.hickory_base.specs.zone_store.ZoneSets.{zone_records}
use Rattle.hickory_store.specs.updates.Changes.{any_change, after_updates, is_type}
use Rattle.hickory_store.specs.updates.Identity.{same_record, ttl_at}
use Rattle.hickory_store.specs.updates.NameUpdates.{of_name}
use Rattle.hickory_store.specs.updates.UpdateAnswers.{IsOutcome, incremented, is_apex_soa, next_data, with_next_serial}
use Rattle.hickory_store.proofs.lemmas.updates.ApexNs.{Records, Resource, and_left}
use Rattle.hickory_store.proofs.lemmas.updates.NamesApart.{fold_by_name}
use Rattle.hickory_store.proofs.lemmas.updates.RecordByRecord.{itself}
use Rattle.hickory_store.proofs.lemmas.updates.SameZones.{Identity, name_respects, ttl_filter}
use Rattle.zone_differences.specs.Standing.{IsChangedBy, are_among}
use Rattle.zone_differences.specs.declared.names.NameRecords.{NameRecords}
use Rattle.zone_differences.proofs.Naming.{among_equal}

module _ (identity : Identity) where
  -- ---- the records of an update

  own_name : (q : Resource) → is_at q.name q ≡ true
  own_name q = eq_from_same q.name q.name (itself q.name)

  of_own : (z : Records) (q : Resource) → ttl_at z q ≡ ttl_at (of_name q.name z) q
  of_own z q = ap (λ b. cond b (ttl_at z q) None) (sym (own_name q)) ∙ sym (ttl_filter (is_at q.name) (name_respects identity q.name) z q)

  module _ (es : List NameRecords) (q : Resource) (apart : are_among es q.name ≡ false) where
    none_named : (r : Resource) → are_among es r.name ≡ true → is_at q.name r ≡ false
    none_named r h = no (is_at q.name r) refl
      where
        no : (b : Bool) → is_at q.name r ≡ b → b ≡ false
        no true e = absurd (let f : false ≡ true = sym apart ∙ among_equal q.name r.name e es ∙ h in cc)
        no false e = refl

    none_of_name : (rs : Records) → AllByRecursion (λ r. are_among es r.name ≡ true) rs → of_name q.name rs ≡ []
    none_of_name [] h = refl
    none_of_name (r ∷ rs) h = ap (λ b. cond b (r ∷ of_name q.name rs) (of_name q.name rs)) (none_named r h.0) ∙ none_of_name rs h.1

    folded : (o : DomainName) (rs z : Records) → AllByRecursion (λ r. are_among es r.name ≡ true) rs → ttl_at (after_updates true o z rs) q ≡ ttl_at z q
    folded o rs z h =
        of_own (after_updates true o z rs) q
        ∙ ap (λ (l : Records). ttl_at l q) (fold_by_name true o q.name rs z ∙ ap (λ (us : Records). after_updates true o (of_name q.name z) us) (none_of_name rs h))
        ∙ sym (of_own z q)

    off_apex : (o : DomainName) → are_among es o ≡ true → is_at o q ≡ false
    off_apex o h = no (is_at o q) refl
      where
        no : (b : Bool) → is_at o q ≡ b → b ≡ false
        no true e = absurd (let f : false ≡ true = sym apart ∙ sym (among_equal o q.name e es) ∙ h in cc)
        no false e = refl

  -- ---- the serial

  module _ (o : DomainName) (q : Resource) (off : is_at o q ≡ false) where
    not_there : (r : Resource) → is_at o r ≡ true → same_record q r ≡ false
    not_there r h = no (same_record q r) refl
      where
        no : (b : Bool) → same_record q r ≡ b → b ≡ false
        no true e = absurd (let f : true ≡ false = sym h ∙ name_respects identity o q r e ∙ off in cc)
        no false e = refl

    one_kept : (r : Resource) (b : Bool) → is_apex_soa o r ≡ b → (x : Option ℕ) → cond (same_record q (cond b (record r { rdata = next_data r.rdata }) r)) (Some (cond b (record r { rdata = next_data r.rdata }) r).ttl) x ≡ cond (same_record q r) (Some r.ttl) x
    one_kept r false e x = refl
    one_kept r true e x =
        let at : is_at o r ≡ true = and_left (is_at o r) (is_type 6 r) e in
        ap (λ b. cond b (Some r.ttl) x) (not_there (record r { rdata = next_data r.rdata }) at) ∙ sym (ap (λ b. cond b (Some r.ttl) x) (not_there r at))

    incremented_kept : (z : Records) → ttl_at (map (incremented o) z) q ≡ ttl_at z q
    incremented_kept [] = refl
    incremented_kept (r ∷ z) = one_kept r (is_apex_soa o r) refl (ttl_at (map (incremented o) z) q) ∙ ap (λ x. cond (same_record q r) (Some r.ttl) x) (incremented_kept z)

  -- ---- an update that is answered

  module _ (o : DomainName) (es : List NameRecords) (rs z records : Records) (there : are_among es o ≡ true) (spoken : AllByRecursion (λ r. are_among es r.name ≡ true) rs) where
    abbrev Stays : Type 0
    Stays = (q : Resource) → are_among es q.name ≡ false → ttl_at z q ≡ ttl_at records q

    by_serial : (b changed : Bool) → IsOutcome (cond b (Ok (map (incremented o) (after_updates true o z rs), true)) (Err 2)) records changed → Stays
    by_serial true changed is q apart =
        sym (is.0 q ∙ incremented_kept o q (off_apex es q apart o there) (after_updates true o z rs) ∙ folded es q apart o rs z spoken)
    by_serial false changed is q apart = absurd is

    by_change : (b changed : Bool) → IsOutcome (cond b (with_next_serial o (after_updates true o z rs)) (Ok (z, false))) records changed → Stays
    by_change true changed is q apart = by_serial (list_any (is_apex_soa o) (after_updates true o z rs)) changed is q apart
    by_change false changed is q apart = sym (is.0 q)

  pub stays : (old new : MemoryZone) (updates : Records) (es : List NameRecords) → are_among es old.origin ≡ true → AllByRecursion (λ r. are_among es r.name ≡ true) updates → IsChangedBy updates old new
      → (q : Resource) → are_among es q.name ≡ false → ttl_at (zone_records old.sets) q ≡ ttl_at (zone_records new.sets) q
  stays old new updates es there spoken made =
      let z : Records = zone_records old.sets in
      by_change old.origin es updates z (zone_records new.sets) there spoken (any_change true old.origin z updates) true made.0

pub origin_kept : (old new : MemoryZone) (updates : Records) → IsChangedBy updates old new → new.origin ≡ old.origin
origin_kept old new updates made = ap (λ (m : MemoryZone). m.origin) made.1
