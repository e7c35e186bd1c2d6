-- The touched names as sets to put and keys that are gone.
use Rattle.std.proofs.Common.{◌≡◌, ◌∙◌, ap, sym, refl, ℕ, Bool, true, false, cond, not, ◌&&◌, ◌||◌, List, [], ◌∷◌, ◌++◌, filter, Option, Some, None}
use Rattle.std.specs.Prelude.{is_some}
use Rattle.std.specs.List.{AllByRecursion, flat_map, list_any}
use Rattle.std.specs.List.Sorted.{IsStrictlySortedBy}
use Rattle.std.specs.BTreeMap.{get}
use Rattle.std.specs.HashMap.Eq.{lookup_congr}
use Rattle.std.specs.Map.{keys_of, lookup, values_of}
use Rattle.std.specs.Option.{option_map, option_or}
use Rattle.std.specs.Ordering.{is_eq, nat_cmp, ordering_then}
use Rattle.std.specs.declared.cmp.Ordering.{Ordering}
use Rattle.std.specs.declared.cmp.Ordering.TheVariants.{Less, Equal, Greater}
use Rattle.std.proofs.lemmas.List.Elements.{filter-append}
use Rattle.std.proofs.lemmas.List.Folds.{list_any-append}
use Rattle.std.proofs.lemmas.Map.Made.{is_some-lookup}
use Rattle.std.proofs.lemmas.Map.Views.{any-filter_same}
use Rattle.wire_names.specs.rr.domain.DomainName.{DomainName}
use Rattle.wire_names.specs.rr.domain.NameOrder.{name_cmp, name_eq}
use Rattle.hickory_base.specs.zone_store.ZoneRecords.{existing, is_at, is_of, rrset}
use Rattle.hickory_base.specs.zone_store.ZoneSets.{IsZone, has_name, is_key, keys_at, sets_of, zone_records}
use Rattle.wire_messages.specs.rr.RrKeys.{key_cmp}
use Rattle.wire_messages.specs.declared.rr.rr_key.RrKey.{RrKey}
use Rattle.hickory_base.proofs.lemmas.zone_store.SharedSets.{lookup-shared}
use Rattle.hickory_base.proofs.lemmas.zone_store.ZoneByName.{rrset_found}
use Rattle.hickory_store.specs.updates.NameUpdates.{AreNow, ByName, of_name, records_or}
use Rattle.hickory_store.specs.representation.SetChanges.{Makes, SharedSet, SharedSets, has_key, is_among}
use Rattle.hickory_store.specs.representation.ZoneSets.{HoldsSets}
use Rattle.hickory_store.proofs.lemmas.updates.ApexNs.{Records, Resource, and_left, names}
use Rattle.hickory_store.proofs.lemmas.updates.NamesApart.{apart, filter_keep, first_false}
use Rattle.hickory_store.proofs.lemmas.file.SetsOfRecords.{Sets, append_none, found_each, key_alike}

abbrev Entries : Type 0
Entries = List (DomainName × Records)

-- ---- the RRsets of a name are among the records of the name

pub own_rrset : (name : DomainName) (t : ℕ) (zs : Records) → rrset (of_name name zs) name t ≡ rrset zs name t
own_rrset name t zs = filter_keep (is_of name t) (is_at name) (λ q e. and_left (is_at name q) _ e) zs

none_step : (p : Resource → Bool) (x : Resource) (xs : Records) (b : Bool) → (b ≡ true → p x ≡ false) → filter p xs ≡ [] → filter p (cond b (x ∷ xs) xs) ≡ []
none_step p x xs true i e = ap (λ b. cond b (x ∷ filter p xs) (filter p xs)) (i refl) ∙ e
none_step p x xs false i e = e

other_rrset : (n name : DomainName) (t : ℕ) → name_eq name n ≡ false → (zs : Records) → rrset (of_name n zs) name t ≡ []
other_rrset n name t h [] = refl
other_rrset n name t h (r ∷ zs) =
    none_step (is_of name t) r (of_name n zs) (is_at n r) (λ e. first_false (is_at name r) _ (apart name n r.name h e)) (other_rrset n name t h zs)

-- ---- what the touched names hold

module _ (zone records : Records) (touched : ByName) (now : AreNow zone touched records) where
  abbrev Own : DomainName × Records → Type 0
  Own e = e.1 ≡ of_name e.0 records

  all_own : (es : Entries) → AllByRecursion (λ e. lookup (name_eq e.0) touched.entries ≡ Some e.1) es → AllByRecursion Own es
  all_own [] found = tt
  all_own (e ∷ es) found = (sym (ap (λ o. records_or o (of_name e.0 zone)) found.0) ∙ now e.0, all_own es found.1)

  module _ (name : DomainName) (t : ℕ) where
    abbrev all : Entries → Records
    all es = flat_map (λ (rs : Records). rs) (values_of es)

    none_behind : (n : DomainName) (es : Entries) → name_eq name n ≡ true → AllByRecursion (λ k. name_cmp n k ≡ Less) (keys_of es) → AllByRecursion Own es → rrset (all es) name t ≡ []
    none_behind n [] h above own = refl
    none_behind n (e ∷ es) h above own =
        filter-append (is_of name t) e.1 (all es)
        ∙ ap (λ rs. rrset rs name t ++ rrset (all es) name t) own.0
        ∙ ap (λ rs. rs ++ rrset (all es) name t) (other_rrset e.0 name t (names.congr name n e.0 h ∙ ap is_eq above.0) records)
        ∙ none_behind n es h above.1 own.1

    own_step : (b : Bool) (e : DomainName × Records) (es : Entries) → name_eq name e.0 ≡ b → AllByRecursion (λ k. name_cmp e.0 k ≡ Less) (keys_of es) → AllByRecursion Own (e ∷ es)
        → rrset (all es) name t ≡ rrset (records_or (lookup (name_eq name) es) []) name t
        → rrset e.1 name t ++ rrset (all es) name t ≡ rrset (records_or (cond b (Some e.1) (lookup (name_eq name) es)) []) name t
    own_step true e es is above own rest = ap (λ rs. rrset e.1 name t ++ rs) (none_behind e.0 es is above own.1) ∙ append_none _
    own_step false e es is above own rest =
        ap (λ rs. rrset rs name t ++ rrset (all es) name t) own.0 ∙ ap (λ rs. rs ++ rrset (all es) name t) (other_rrset e.0 name t is records) ∙ rest

    of_all : (es : Entries) → IsStrictlySortedBy name_cmp (keys_of es) → AllByRecursion Own es → rrset (all es) name t ≡ rrset (records_or (lookup (name_eq name) es) []) name t
    unfolding IsStrictlySortedBy
    of_all [] sorted own = refl
    of_all (e ∷ es) sorted own = filter-append (is_of name t) e.1 (all es) ∙ own_step (name_eq name e.0) e es refl sorted.0 own (of_all es sorted.1 own.1)

    pub all_of : IsStrictlySortedBy name_cmp (keys_of touched.entries) → rrset (all touched.entries) name t ≡ rrset (records_or (lookup (name_eq name) touched.entries) []) name t
    all_of sorted = of_all touched.entries sorted (all_own touched.entries (found_each name_cmp names touched.entries sorted))

-- ---- which keys are gone

first_equal : (o p : Ordering) → is_eq (ordering_then o p) ≡ true → is_eq o ≡ true
first_equal Less p e = e
first_equal Equal p e = refl
first_equal Greater p e = e

or_both : (a b c : Bool) → ((a && c) || (b && c)) ≡ ((a || b) && c)
or_both true true true = refl
or_both true true false = refl
or_both true false true = refl
or_both true false false = refl
or_both false b c = refl

some_value : {X Y : Type 0} (f : X → Y) (o : Option X) → is_some (option_map f o) ≡ is_some o
some_value f None = refl
some_value f (Some x) = refl

module _ (name : DomainName) (t : ℕ) where
  abbrev asked : RrKey
  asked = record { name = name; record_type = t }

  abbrev set_value : SharedSet → Records
  set_value set = set.value

  same_name : (n : DomainName) (k : RrKey) → is_key name t k ≡ true → has_name n k ≡ name_eq name n
  same_name n k e = names.symm n k.name ∙ sym (names.congr name k.name n (first_equal (name_cmp name k.name) (nat_cmp t k.record_type) e))

  keys_of_names : (S : Sets) (ns : List DomainName) → is_among name t (flat_map (λ n. keys_at n S) ns) ≡ (list_any (name_eq name) ns && is_among name t (keys_of S))
  keys_of_names S [] = refl
  keys_of_names S (n ∷ ns) =
      list_any-append (is_key name t) (keys_at n S) (flat_map (λ n. keys_at n S) ns)
      ∙ ap (λ b. b || is_among name t (flat_map (λ n. keys_at n S) ns)) (any-filter_same (is_key name t) (has_name n) (name_eq name n) (same_name n) (keys_of S))
      ∙ ap (λ b. (name_eq name n && is_among name t (keys_of S)) || b) (keys_of_names S ns)
      ∙ or_both (name_eq name n) (list_any (name_eq name) ns) (is_among name t (keys_of S))

  -- a key is gone where its name is touched and the zone has it, and no set is put there
  pub gone_is : (S : Sets) (M : SharedSets) (es : Entries) (keys gone : List RrKey) → keys ≡ flat_map (λ n. keys_at n S) (keys_of es) → gone ≡ filter (λ k. not (has_key M k)) keys
      → is_among name t gone ≡ (not (is_some (lookup (is_key name t) (sets_of M))) && (is_some (lookup (name_eq name) es) && is_some (lookup (is_key name t) S)))
  gone_is S M es keys gone k g =
      ap (is_among name t) g
      ∙ any-filter_same (is_key name t) (λ q. not (has_key M q)) (not (is_some (lookup (is_key name t) M.entries)))
      (λ q e. ap (λ o. not (is_some o)) (sym (lookup_congr (λ a b. is_eq (key_cmp a b)) key_alike.congr M.entries asked q e))) keys
      ∙ ap (λ o. not o && is_among name t keys) (sym (ap is_some (lookup-shared (is_key name t) M.entries) ∙ some_value set_value (lookup (is_key name t) M.entries)))
      ∙ ap (λ ks. not (is_some (lookup (is_key name t) (sets_of M))) && is_among name t ks) k
      ∙ ap (λ b. not (is_some (lookup (is_key name t) (sets_of M))) && b)
      (keys_of_names S (keys_of es)
      ∙ ap (λ b. b && is_among name t (keys_of S)) (sym (is_some-lookup (name_eq name) es))
      ∙ ap (λ b. is_some (lookup (name_eq name) es) && b) (sym (is_some-lookup (is_key name t) S)))

-- ---- what the changes make

untouched_set : (made stood : Option Records) (gone : Bool) → gone ≡ (not (is_some made) && (false && is_some stood)) → made ≡ None → cond gone None (option_or made stood) ≡ stood
untouched_set (Some x) stood gone e h = absurd (cc)
untouched_set None stood gone e h = ap (λ b. cond b None stood) e

touched_set : (made stood : Option Records) (gone : Bool) → gone ≡ (not (is_some made) && (true && is_some stood)) → cond gone None (option_or made stood) ≡ made
touched_set (Some x) stood gone e = ap (λ b. cond b None (Some x)) e
touched_set None (Some s) gone e = ap (λ b. cond b None (Some s)) e
touched_set None None gone e = ap (λ b. cond b None None) e

module _ (zone records : Records) (name : DomainName) (t : ℕ) where
  by_cases : (o : Option Records) (made stood : Option Records) (gone : Bool)
      → records_or o (of_name name zone) ≡ of_name name records → made ≡ existing (rrset (records_or o []) name t) → existing (rrset zone name t) ≡ stood
      → gone ≡ (not (is_some made) && (is_some o && is_some stood)) → cond gone None (option_or made stood) ≡ existing (rrset records name t)
  by_cases None made stood gone now makes stands is =
      untouched_set made stood gone is makes ∙ sym stands
      ∙ ap existing (sym (own_rrset name t zone) ∙ ap (λ zs. rrset zs name t) now ∙ own_rrset name t records)
  by_cases (Some v) made stood gone now makes stands is =
      touched_set made stood gone is ∙ makes ∙ ap existing (ap (λ zs. rrset zs name t) now ∙ own_rrset name t records)

-- the changes make the sets hold what the touched names do, and of all others what the zone has
pub makes_now : (S : Sets) (touched : ByName) (records flat : Records) (M : SharedSets) (keys gone : List RrKey) (puts : Sets)
    → IsStrictlySortedBy key_cmp (keys_of S) → IsZone S → IsStrictlySortedBy name_cmp (keys_of touched.entries) → AreNow (zone_records S) touched records
    → flat ≡ flat_map (λ (rs : Records). rs) (values_of touched.entries) → HoldsSets flat (sets_of M)
    → keys ≡ flat_map (λ n. keys_at n S) (keys_of touched.entries) → gone ≡ filter (λ k. not (has_key M k)) keys → puts ≡ sets_of M → Makes puts gone S records
makes_now S touched records flat M keys gone puts sorted zone ordered now f holds k g p name t =
    ap (λ (ps : Sets). cond (is_among name t gone) None (option_or (lookup (is_key name t) ps) (lookup (is_key name t) S))) p
    ∙ by_cases (zone_records S) records name t (get name_cmp touched name) (lookup (is_key name t) (sets_of M)) (lookup (is_key name t) S) (is_among name t gone) (now name)
    (holds name t ∙ ap existing (ap (λ zs. rrset zs name t) f ∙ all_of (zone_records S) records touched now name t ordered))
    (rrset_found name t S sorted zone)
    (gone_is name t S M touched.entries keys gone k g)
