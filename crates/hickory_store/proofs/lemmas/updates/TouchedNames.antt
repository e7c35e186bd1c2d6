-- A touched name takes the turns of its own records, and every other name stays.
use Rattle.std.proofs.Common.{◌≡◌, ◌∙◌, ap, sym, refl, Bool, true, false, cond, List, [], ◌∷◌, map, Option, Some, None, Ok, Err}
use Rattle.std.specs.List.{list_any}
use Rattle.std.specs.BTreeMap.{get}
use Rattle.std.specs.Map.{lookup}
use Rattle.std.proofs.lemmas.List.Elements.{filter_agree}
use Rattle.wire_names.specs.rr.domain.DomainName.{DomainName}
use Rattle.wire_names.specs.rr.domain.NameOrder.{lower_name, name_cmp, name_eq}
use Rattle.wire_names.proofs.lemmas.rr.domain.SameNames.{eq_from_same, lower_same}
use Rattle.hickory_base.specs.zone_store.ZoneRecords.{is_at}
use Rattle.hickory_store.specs.updates.Changes.{any_change, changes, after_updates, after_record}
use Rattle.hickory_store.specs.updates.NameUpdates.{AreNow, ByName, PutsName, of_name, records_now, records_or}
use Rattle.hickory_store.specs.updates.UpdateAnswers.{applied, incremented, is_apex_soa, next_data, with_next_serial}
use Rattle.hickory_store.proofs.lemmas.updates.ApexNs.{Records, Resource, and_left, names}
use Rattle.hickory_store.proofs.lemmas.updates.NamesApart.{any_within, apart, first_false, other_turn, own_changes, own_turn}

-- names that are equal have the same records
pub alike : (a b : DomainName) → name_eq a b ≡ true → (zs : Records) → of_name a zs ≡ of_name b zs
alike a b e zs = filter_agree (is_at a) (is_at b) (λ q. names.congr a b q.name e) zs

-- ---- what a name that is put in and out leaves

module _ (name : DomainName) (records : Records) (old mid new : ByName) (takes : PutsName name None old mid) (puts : PutsName name (Some records) mid new) where
  put_step : (b : Bool) (o x y : Option Records) → x ≡ cond b None o → y ≡ cond b (Some records) x → y ≡ cond b (Some records) o
  put_step true o x y e f = f
  put_step false o x y e f = f ∙ e

  pub put_over : PutsName name (Some records) old new
  put_over other = put_step (name_eq name other) _ _ _ (takes other) (puts other)

-- the records before and after, where those of one name alone changed
module _ (zone : Records) (name : DomainName) (old new : ByName) (put before after : Records) (puts : PutsName name (Some put) old new) (now : AreNow zone old before)
    (own : put ≡ of_name name after) (others : (n : DomainName) → name_eq name n ≡ false → of_name n after ≡ of_name n before) where
  name_step : (n : DomainName) (b : Bool) → name_eq name n ≡ b → records_or (cond b (Some put) (get name_cmp old n)) (of_name n zone) ≡ of_name n after
  name_step n true e = own ∙ alike name n e after
  name_step n false e = now n ∙ sym (others n e)

  pub replaced : AreNow zone new after
  replaced n = ap (λ o. records_or o (of_name n zone)) (puts n) ∙ name_step n (name_eq name n) refl

-- no name is touched
pub none_touched : (zone : Records) (touched : ByName) → touched.entries ≡ [] → AreNow zone touched zone
none_touched zone touched e name = ap (λ (es : List (DomainName × Records)). records_or (lookup (name_eq name) es) (of_name name zone)) e

-- ---- one turn

lower_own : (r : Resource) → is_at (lower_name r.name) r ≡ true
lower_own r = eq_from_same (lower_name r.name) r.name (lower_same r.name)

other_name : (r : Resource) (n : DomainName) → name_eq (lower_name r.name) n ≡ false → is_at n r ≡ false
other_name r n e = names.symm n r.name ∙ sym (names.congr (lower_name r.name) r.name n (lower_own r)) ∙ e

module _ (f : Bool) (origin : DomainName) (zone : Records) (r : Resource) (old mid new : ByName) (before took put : Records)
    (takes : PutsName (lower_name r.name) None old mid) (puts : PutsName (lower_name r.name) (Some put) mid new)
    (taken : took ≡ records_now zone old (lower_name r.name)) (now : AreNow zone old before) where
  took_is : took ≡ of_name (lower_name r.name) before
  took_is = taken ∙ now (lower_name r.name)

  pub turned : put ≡ after_record f origin took r → AreNow zone new (after_record f origin before r)
  turned e =
      replaced zone (lower_name r.name) old new put before (after_record f origin before r) (put_over (lower_name r.name) put old mid new takes puts) now
      (e ∙ ap (λ zs. after_record f origin zs r) took_is ∙ sym (own_turn f (lower_name r.name) r (lower_own r) origin before))
      (λ n apart. other_turn f n r (other_name r n apart) origin before)

  pub told : (changed : Bool) → changed ≡ changes f origin took r → changed ≡ changes f origin before r
  told changed e = e ∙ ap (λ zs. changes f origin zs r) took_is ∙ own_changes f (lower_name r.name) r (lower_own r) origin before

-- ---- the next serial

module _ (o : DomainName) where
  same_at : (n : DomainName) (q : Resource) (b : Bool) → is_at n (cond b (record q { rdata = next_data q.rdata }) q) ≡ is_at n q
  same_at n q true = refl
  same_at n q false = refl

  map_step : (q : Resource) (zs : Records) (b : Bool) → map (incremented o) (cond b (q ∷ zs) zs) ≡ cond b (incremented o q ∷ map (incremented o) zs) (map (incremented o) zs)
  map_step q zs true = refl
  map_step q zs false = refl

  map_of_name : (n : DomainName) (zs : Records) → of_name n (map (incremented o) zs) ≡ map (incremented o) (of_name n zs)
  map_of_name n [] = refl
  map_of_name n (q ∷ zs) =
      ap (λ b. cond b (incremented o q ∷ of_name n (map (incremented o) zs)) (of_name n (map (incremented o) zs))) (same_at n q (is_apex_soa o q))
      ∙ ap (λ (w : Records). cond (is_at n q) (incremented o q ∷ w) w) (map_of_name n zs)
      ∙ sym (map_step q (of_name n zs) (is_at n q))

  kept_step : (q : Resource) (zs : Records) (b : Bool) → (b ≡ true → is_apex_soa o q ≡ false) → map (incremented o) zs ≡ zs → map (incremented o) (cond b (q ∷ zs) zs) ≡ cond b (q ∷ zs) zs
  kept_step q zs true i e =
      ap (λ (x : Resource). x ∷ map (incremented o) zs) (ap (λ b. cond b (record q { rdata = next_data q.rdata }) q) (i refl)) ∙ ap (λ (w : Records). q ∷ w) e
  kept_step q zs false i e = e

  -- a name that is not the apex keeps its records
  kept_others : (n : DomainName) → name_eq o n ≡ false → (zs : Records) → map (incremented o) (of_name n zs) ≡ of_name n zs
  kept_others n h [] = refl
  kept_others n h (q ∷ zs) = kept_step q (of_name n zs) (is_at n q) (λ e. first_false (is_at o q) _ (apart o n q.name h e)) (kept_others n h zs)

  module _ (zone : Records) (old mid new : ByName) (before took put : Records) (takes : PutsName o None old mid) (taken : took ≡ records_now zone old o) (now : AreNow zone old before) where
    pub apex_soa_is : list_any (is_apex_soa o) took ≡ list_any (is_apex_soa o) before
    apex_soa_is = ap (list_any (is_apex_soa o)) (taken ∙ now o) ∙ any_within (is_apex_soa o) (is_at o) (λ q t. and_left (is_at o q) _ t) before

    pub incremented_now : PutsName o (Some put) mid new → put ≡ map (incremented o) took → AreNow zone new (map (incremented o) before)
    incremented_now puts e =
        replaced zone o old new put before (map (incremented o) before) (put_over o put old mid new takes puts) now
        (e ∙ ap (map (incremented o)) (taken ∙ now o) ∙ sym (map_of_name o before))
        (λ n apart. map_of_name n before ∙ kept_others n apart before)

  pub serial_given : (zs : Records) → list_any (is_apex_soa o) zs ≡ true → with_next_serial o zs ≡ Ok (map (incremented o) zs, true)
  serial_given zs e = ap (λ b. cond b (Ok (map (incremented o) zs, true)) (Err 2)) e

  pub serial_refused : (zs : Records) → list_any (is_apex_soa o) zs ≡ false → with_next_serial o zs ≡ Err 2
  serial_refused zs e = ap (λ b. cond b (Ok (map (incremented o) zs, true)) (Err 2)) e

-- ---- what an update leaves

module _ (f : Bool) (o : DomainName) (z rs : Records) where
  pub without_serial : (increments : Bool) → increments ≡ false → applied f o z rs increments ≡ Ok (after_updates f o z rs, increments)
  without_serial true e = absurd (cc)
  without_serial false e = refl

  pub with_change : (increments : Bool) → increments ≡ true → any_change f o z rs ≡ true → applied f o z rs increments ≡ with_next_serial o (after_updates f o z rs)
  with_change true e h = ap (λ b. cond b (with_next_serial o (after_updates f o z rs)) (Ok (z, false))) h
  with_change false e h = absurd (cc)
