-- Lists of records that stand for one zone.
use Rattle.std.proofs.Common.{List, map, ◌<◌, arith, get_or, length, ◌≡◌, ◌∙◌, ap, sym, subst, refl, ℕ, zero, suc, Bool, true, false, cond, ◌++◌, [], ◌∷◌, Option, Some, None, IfOk, Result, Ok, Err}
use Rattle.std.specs.List.{AllByRecursion, slice_get}
use Rattle.std.specs.Option.{option_or}
use Rattle.std.specs.declared.alloc.Global.{Global}
use Rattle.std.specs.declared.rc.Rc.{Rc}
use Rattle.wire_messages.specs.declared.rr.rr_key.RrKey.{RrKey}
use Rattle.wire_messages.specs.rr.RecordSameness.{SameRecord}
use Rattle.wire_names.proofs.lemmas.rr.domain.SameNames.{both_ways}
use Rattle.hickory_base.specs.declared.zone_store.record_set.RecordSet.{RecordSet}
use Rattle.hickory_base.specs.zone_store.ZoneSets.{AreDistinct, shared_sets, zone_records}
use Rattle.hickory_store.specs.updates.Identity.{SameZone, same_record, ttl_at}
use Rattle.hickory_store.proofs.lemmas.updates.ApexNs.{Records, Resource}
use Rattle.hickory_store.proofs.lemmas.updates.SameZones.{Identity, same_respects, same_turned, same_via, ttl_append}

-- the record of the same identity has this TTL there
abbrev pub Has : Records → Resource → Type 0
Has records r = ttl_at records r ≡ Some r.ttl

all_at : (P : Resource → Type 0) (xs : Records) (k : ℕ) (q : Resource) → AllByRecursion P xs → slice_get xs k ≡ Some q → P q
all_at P [] k q all is = absurd (cc)
all_at P (x ∷ xs) zero q all is = let same : x ≡ q = cc in subst P same all.0
all_at P (x ∷ xs) (suc k) q all is = all_at P xs k q all.1 is

-- what stands at a place within
pub found : (records : Records) (k : ℕ) (q : Resource) → k < length records → get_or records k q ≡ q → slice_get records k ≡ Some q
found [] k q inside is = absurd (omega (arith, inside))
found (x ∷ xs) zero q inside is = ap Some is
found (x ∷ xs) (suc k) q inside is = found xs k q (omega (arith, inside)) is

-- ---- lists that are put together

pub same_both : (a b c d : Records) → SameZone a b → SameZone c d → SameZone (a ++ c) (b ++ d)
same_both a b c d first second q = ttl_append a c q ∙ (λ i. option_or (first q i) (second q i)) ∙ sym (ttl_append b d q)

-- ---- the sets of a zone

-- the first, and those behind it
pub first_set : (all rest : List (RrKey × Rc RecordSet Global)) (e : RrKey × Rc RecordSet Global) (records : Records) → all ≡ e ∷ rest → e.1.value ≡ records → zone_records (shared_sets all) ≡ records ++ zone_records (shared_sets rest)
first_set all rest e records step value = ap (λ (es : List (RrKey × Rc RecordSet Global)). zone_records (shared_sets es)) step ∙ ap (λ (l : Records). l ++ zone_records (shared_sets rest)) value

pub map_two : (f : Resource → Resource) (a b : Records) → map f (a ++ b) ≡ map f a ++ map f b
map_two f [] b = refl
map_two f (r ∷ a) b = ap (λ (l : Records). f r ∷ l) (map_two f a b)

module _ (identity : Identity) where
  same_one : (r q : Resource) → same_record r q ≡ true → r.ttl ≡ q.ttl → SameZone (r ∷ []) (q ∷ [])
  same_one r q same ttl x = λ i. cond (sym (same_respects identity x r q same) i) (Some (ttl i)) None

  pub same_more : (front seen : Records) (r q : Resource) → SameZone front seen → same_record r q ≡ true → r.ttl ≡ q.ttl → SameZone (front ++ r ∷ []) (seen ++ q ∷ [])
  same_more front seen r q so_far same ttl = same_both front seen (r ∷ []) (q ∷ []) so_far (same_one r q same ttl)

  -- ---- a record that is found at a place

  behind_other : (xs : Records) (x q r : Resource) (k : ℕ) (b : Bool) → same_record r x ≡ b → AllByRecursion (λ z. ¬ (SameRecord x z)) xs → slice_get xs k ≡ Some q → same_record r q ≡ true → Has xs r
      → cond b (Some x.ttl) (ttl_at xs r) ≡ Some r.ttl
  behind_other xs x q r k true first others is same rest = absurd (all_at (λ z. ¬ (SameRecord x z)) xs k q others is ((identity x q).0 (same_via identity x r q (same_turned identity r x first) same)))
  behind_other xs x q r k false first others is same rest = rest

  pub has_at : (records : Records) (k : ℕ) (q r : Resource) → AreDistinct records → slice_get records k ≡ Some q → same_record r q ≡ true → r.ttl ≡ q.ttl → Has records r
  has_at [] k q r distinct is same ttl = absurd (cc)
  has_at (x ∷ xs) zero q r distinct is same ttl =
      let one : x ≡ q = cc in
      ap (λ (z : Resource). cond (same_record r z) (Some z.ttl) (ttl_at xs r)) one ∙ ap (λ b. cond b (Some q.ttl) (ttl_at xs r)) same ∙ ap Some (sym ttl)
  has_at (x ∷ xs) (suc k) q r distinct is same ttl = behind_other xs x q r k (same_record r x) refl distinct.0 is same (has_at xs k q r distinct.1 is same ttl)

  -- ---- each among the others

  alike : (records : Records) (q r : Resource) → same_record q r ≡ true → ttl_at records q ≡ ttl_at records r
  alike [] q r same = refl
  alike (s ∷ records) q r same = λ i. cond (one i) (Some s.ttl) (alike records q r same i)
    where
      one : same_record q s ≡ same_record r s
      one = both_ways (same_record q s) (same_record r s) (λ h. same_via identity r q s (same_turned identity q r same) h) (λ h. same_via identity q r s same h)

  here_or_behind : (a b : Records) (r q : Resource) (t : ℕ) (m : Bool) → same_record q r ≡ m → Has b r → (ttl_at a q ≡ Some t → ttl_at b q ≡ Some t) → cond m (Some r.ttl) (ttl_at a q) ≡ Some t → ttl_at b q ≡ Some t
  here_or_behind a b r q t true same first behind found = alike b q r same ∙ first ∙ found
  here_or_behind a b r q t false same first behind found = behind found

  within : (a b : Records) → AllByRecursion (Has b) a → (q : Resource) (t : ℕ) → ttl_at a q ≡ Some t → ttl_at b q ≡ Some t
  within [] b all q t is = absurd (cc)
  within (r ∷ a) b all q t is = here_or_behind a b r q t (same_record q r) refl all.0 (within a b all.1 q t) is

  pub same_within : (a b : Records) → AllByRecursion (Has b) a → AllByRecursion (Has a) b → SameZone a b
  same_within a b there back q = by (ttl_at a q) (ttl_at b q) refl refl
    where
      by : (x y : Option ℕ) → ttl_at a q ≡ x → ttl_at b q ≡ y → ttl_at a q ≡ ttl_at b q
      by (Some t) y p r = p ∙ sym (within a b there q t p)
      by None (Some t) p r = within b a back q t r ∙ sym r
      by None None p r = p ∙ sym r

-- what holds of what was answered
pub of_ok : {T E : Type 0} (P Q : T → Type 0) (result : Result T E) → ((t : T) → P t → Q t) → IfOk result P → IfOk result Q
of_ok P Q (Ok t) from h = from t h
of_ok P Q (Err e) from h = tt
