-- Records put one by one under their names and types make the zone of these records.
use Rattle.std.proofs.Common.{◌≡◌, ◌∙◌, ℕ, Bool, true, false, cond, ◌&&◌, List, [], ◌∷◌, ◌++◌, filter, length, Option, Some, None, refl, sym, ap, subst, ◌<◌, arith}
use Rattle.std.specs.Prelude.{◌↔◌, IsTrue, ◌==◌}
use Rattle.std.specs.List.{AllByRecursion}
use Rattle.std.specs.List.Sorted.{IsStrictlySortedBy}
use Rattle.std.specs.Map.{keys_of, lookup}
use Rattle.std.specs.Option.{option_map}
use Rattle.std.specs.Ordering.{is_eq}
use Rattle.std.specs.Cmp.{IsEquivalence, eq_by_cmp_equiv}
use Rattle.std.specs.declared.alloc.Global.{Global}
use Rattle.std.specs.declared.cmp.Ordering.{Ordering}
use Rattle.std.specs.declared.cmp.Ordering.TheVariants.{Less}
use Rattle.std.specs.declared.rc.Rc.{Rc}
use Rattle.std.proofs.lemmas.Bool.{eq-eqb, eqb-true}
use Rattle.std.proofs.lemmas.List.Elements.{filter-append, filter_agree}
use Rattle.wire_names.specs.rr.domain.DomainName.{DomainName}
use Rattle.wire_names.specs.representation.NameHash.{same_from_eq}
use Rattle.wire_names.specs.rr.domain.NameOrder.{lower_name, name_eq, SameName}
use Rattle.wire_messages.specs.rr.RecordData.{type_of}
use Rattle.wire_messages.specs.rr.RecordSameness.{SameRecord}
use Rattle.wire_messages.specs.declared.rr.rdata.RData.{RData}
use Rattle.wire_messages.specs.declared.rr.record.Record.{Record}
use Rattle.wire_messages.proofs.lemmas.rr.RecordComparing.{both_hold, hold_both}
use Rattle.wire_names.proofs.lemmas.rr.domain.SameNames.{eq_from_same, lower_same, same_order}
use Rattle.hickory_base.specs.zone_store.RecordSets.{IsRecordSet, SameSet}
use Rattle.hickory_base.specs.zone_store.ZoneRecords.{existing, is_of, rrset}
use Rattle.hickory_base.specs.zone_store.ZoneSets.{AreDistinct, IsUnder, IsWellTyped, IsZone, IsZoneSet, is_key, shared_sets, zone_records}
use Rattle.wire_messages.specs.rr.RrKeys.{key_cmp}
use Rattle.hickory_base.specs.declared.zone_store.record_set.RecordSet.{RecordSet}
use Rattle.wire_messages.specs.declared.rr.rr_key.RrKey.{RrKey}
use Rattle.hickory_base.proofs.lemmas.zone_store.SharedSets.{lookup-shared}
use Rattle.hickory_base.proofs.lemmas.zone_store.ZoneByName.{key_total, of_under, rrset_found}
use Rattle.hickory_store.specs.updates.Identity.{SameRrsets, SameZone, same_record, ttl_at}
use Rattle.hickory_store.specs.representation.ZoneSets.{HoldsSets, PutsSet, or_none, records_under}
use Rattle.hickory_store.proofs.lemmas.updates.NamedSets.{existing_some, rrset_at}
use Rattle.hickory_store.proofs.lemmas.updates.RecordByRecord.{itself, of_itself, type-lower}

abbrev Records : Type 0
Records = List (Record RData)

abbrev pub Sets : Type 0
Sets = List (RrKey × Records)

pub key_alike : IsEquivalence (λ (a b : RrKey). is_eq (key_cmp a b))
key_alike = eq_by_cmp_equiv key_total

-- ---- one record more

abbrev pub key_for : Record RData → RrKey
key_for q = record { name = lower_name q.name; record_type = type_of q.rdata }

under_own : (q : Record RData) → IsUnder (key_for q) q
under_own q = let s = lower_same q.name in record { name = record { labels = sym s.labels; marks = sym s.marks }; record_type = refl }

-- the key of a record is found where its name and type are
own_key : (q : Record RData) (name : DomainName) (t : ℕ) → is_of name t q ≡ is_key name t (key_for q)
own_key q name t = of_under name t (key_for q) q (under_own q)

some_last : (xs : Records) (q : Record RData) → existing (xs ++ q ∷ []) ≡ Some (xs ++ q ∷ [])
some_last [] q = refl
some_last (x ∷ xs) q = refl

or_existing : (xs : Records) → or_none (existing xs) ≡ xs
or_existing [] = refl
or_existing (x ∷ xs) = refl

pub append_none : (xs : Records) → xs ++ [] ≡ xs
append_none [] = refl
append_none (x ∷ xs) = ap (λ more. x ∷ more) (append_none xs)

pub append_one : {X : Type 0} (xs : List X) (x : X) (ys : List X) → (xs ++ x ∷ []) ++ ys ≡ xs ++ x ∷ ys
append_one [] x ys = refl
append_one (y ∷ xs) x ys = ap (λ more. y ∷ more) (append_one xs x ys)

-- ---- sets that are shared

map_cond : {X Y : Type 0} (f : X → Y) (b : Bool) (o x : Option X) → option_map f (cond b o x) ≡ cond b (option_map f o) (option_map f x)
map_cond f true o x = refl
map_cond f false o x = refl

pub puts : (key : RrKey) (o : Option (Rc RecordSet Global)) (old new : List (RrKey × Rc RecordSet Global))
    → ((k : RrKey) → lookup (λ e. is_eq (key_cmp k e)) new ≡ cond (is_eq (key_cmp key k)) o (lookup (λ e. is_eq (key_cmp k e)) old))
    → PutsSet key (option_map (λ s. s.value) o) (shared_sets old) (shared_sets new)
puts key o old new h name t =
    let asked : RrKey = record { name = name; record_type = t } in
    let value : Rc RecordSet Global → Records = λ s. s.value in
    lookup-shared (is_key name t) new
    ∙ ap (option_map value) (h asked)
    ∙ map_cond value (is_eq (key_cmp key asked)) o (lookup (is_key name t) old)
    ∙ ap (λ b. cond b (option_map value o) (option_map value (lookup (is_key name t) old))) (key_alike.symm key asked)
    ∙ ap (λ x. cond (is_key name t key) (option_map value o) x) (sym (lookup-shared (is_key name t) old))

-- ---- what is found

pub holds_none : (S : Sets) → S ≡ [] → HoldsSets [] S
holds_none S e name t = ap (lookup (is_key name t)) e

pub under_is : (q : Record RData) (rs : Records) (S : Sets) → HoldsSets rs S → records_under (key_for q) S ≡ rrset rs q.name (type_of q.rdata)
under_is q rs S h = ap or_none (h (lower_name q.name) (type_of q.rdata)) ∙ or_existing _ ∙ rrset_at q.name (type_of q.rdata) rs

module _ (q : Record RData) (rs : Records) (name : DomainName) (t : ℕ) (e : is_of name t q ≡ true) where
  alike : (r : Record RData) → is_of q.name (type_of q.rdata) r ≡ is_of name t r
  alike r =
      let both = both_hold _ _ e in
      let s : SameName name q.name = same_from_eq name q.name both.0 in
      let back : SameName q.name name = record { labels = sym s.labels; marks = sym s.marks } in
      ap (λ o. is_eq o && (type_of q.rdata == type_of r.rdata)) (same_order q.name r.name name r.name back (itself r.name))
      ∙ ap (λ u. name_eq name r.name && (u == type_of r.rdata)) (sym (eqb-true t (type_of q.rdata) both.1))

  sets_alike : rrset rs q.name (type_of q.rdata) ≡ rrset rs name t
  sets_alike = filter_agree (is_of q.name (type_of q.rdata)) (is_of name t) alike rs

module _ (q : Record RData) (rs : Records) (S S1 S2 : Sets) (h : HoldsSets rs S) (p1 : PutsSet (key_for q) None S S1)
    (p2 : PutsSet (key_for q) (Some (rrset rs q.name (type_of q.rdata) ++ q ∷ [])) S1 S2) where
  last_step : (name : DomainName) (t : ℕ) (b : Bool) → is_of name t q ≡ b
      → cond b (Some (rrset rs q.name (type_of q.rdata) ++ q ∷ [])) (lookup (is_key name t) S1) ≡ existing (rrset rs name t ++ cond b (q ∷ []) [])
  last_step name t true e = ap (λ xs. Some (xs ++ q ∷ [])) (sets_alike q rs name t e) ∙ sym (some_last (rrset rs name t) q)
  last_step name t false e =
      p1 name t ∙ ap (λ b. cond b None (lookup (is_key name t) S)) (sym (own_key q name t) ∙ e) ∙ h name t ∙ ap existing (sym (append_none (rrset rs name t)))

  pub holds_more : HoldsSets (rs ++ q ∷ []) S2
  holds_more name t =
      p2 name t
      ∙ ap (λ b. cond b (Some (rrset rs q.name (type_of q.rdata) ++ q ∷ [])) (lookup (is_key name t) S1)) (sym (own_key q name t))
      ∙ last_step name t (is_of name t q) refl
      ∙ ap existing (sym (filter-append (is_of name t) rs (q ∷ [])))

-- ---- the records of a name and type make a set

passing_step : {X : Type 0} (p : X → Bool) (x : X) (xs : List X) (b : Bool) → p x ≡ b → AllByRecursion (λ y. p y ≡ true) xs → AllByRecursion (λ y. p y ≡ true) (cond b (x ∷ xs) xs)
passing_step p x xs true e h = (e, h)
passing_step p x xs false e h = h

pub passing : {X : Type 0} (p : X → Bool) (xs : List X) → AllByRecursion (λ y. p y ≡ true) (filter p xs)
passing p [] = tt
passing p (x ∷ xs) = passing_step p x (filter p xs) (p x) refl (passing p xs)

module _ (name : DomainName) (t : ℕ) where
  of_both : (x r : Record RData) → is_of name t x ≡ true → is_of name t r ≡ true → SameSet x r
  of_both x r h k =
      let a = both_hold _ _ h in
      let b = both_hold _ _ k in
      let m : SameName name x.name = same_from_eq name x.name a.0 in
      let n : SameName name r.name = same_from_eq name r.name b.0 in
      record {
        name = record { labels = sym m.labels ∙ n.labels; marks = sym m.marks ∙ n.marks };
        record_type = sym (eqb-true t (type_of x.rdata) a.1) ∙ eqb-true t (type_of r.rdata) b.1;
      }

  all_with : (x : Record RData) (xs : Records) (q : Record RData) → is_of name t x ≡ true → AllByRecursion (λ r. is_of name t r ≡ true) xs → is_of name t q ≡ true
      → AllByRecursion (SameSet x) (xs ++ q ∷ [])
  all_with x [] q e h k = (of_both x q e k, tt)
  all_with x (y ∷ xs) q e h k = (of_both x y e h.0, all_with x xs q e h.1 k)

  set_with_last : (xs : Records) (q : Record RData) → AllByRecursion (λ r. is_of name t r ≡ true) xs → is_of name t q ≡ true → IsRecordSet (xs ++ q ∷ [])
  set_with_last [] q h k = tt
  set_with_last (x ∷ xs) q h k = all_with x xs q h.0 h.1 k

pub record_set_last : (q : Record RData) (rs : Records) → IsRecordSet (rrset rs q.name (type_of q.rdata) ++ q ∷ [])
record_set_last q rs = set_with_last q.name (type_of q.rdata) (rrset rs q.name (type_of q.rdata)) q (passing (is_of q.name (type_of q.rdata)) rs) (of_itself q)

-- ---- the sets make a zone

after_less : {K : Type 0} (order : K → K → Ordering) (alike : IsEquivalence (λ (a b : K). is_eq (order a b))) (k e : K) → order k e ≡ Less → is_eq (order e k) ≡ false
after_less order alike k e h = alike.symm e k ∙ ap is_eq h

module _ {X : Type 0} where
  skipped : (b : Bool) (v w : X) (o : Option X) → b ≡ false → o ≡ Some w → cond b (Some v) o ≡ Some w
  skipped true v w o e h = absurd (cc)
  skipped false v w o e h = h

  found_here : (b : Bool) (v : X) (o : Option X) → b ≡ true → cond b (Some v) o ≡ Some v
  found_here true v o e = refl
  found_here false v o e = absurd (cc)

module _ {K X : Type 0} (order : K → K → Ordering) (alike : IsEquivalence (λ (a b : K). is_eq (order a b))) where
  found_behind : (f : K × X) (es xs : List (K × X)) → AllByRecursion (λ k. order f.0 k ≡ Less) (keys_of xs)
      → AllByRecursion (λ e. lookup (λ k. is_eq (order e.0 k)) es ≡ Some e.1) xs → AllByRecursion (λ e. lookup (λ k. is_eq (order e.0 k)) (f ∷ es) ≡ Some e.1) xs
  found_behind f es [] above h = tt
  found_behind f es (x ∷ xs) above h = (skipped _ f.1 x.1 _ (after_less order alike f.0 x.0 above.0) h.0, found_behind f es xs above.1 h.1)

  -- each value is found under its key
  pub found_each : (es : List (K × X)) → IsStrictlySortedBy order (keys_of es) → AllByRecursion (λ e. lookup (λ k. is_eq (order e.0 k)) es ≡ Some e.1) es
  unfolding IsStrictlySortedBy
  found_each [] sorted = tt
  found_each (f ∷ es) sorted = (found_here _ f.1 _ (alike.refl f.0), found_behind f es es sorted.0 (found_each es sorted.1))

filled : (xs ys : Records) → existing xs ≡ Some ys → 0 < length xs
filled [] ys e = absurd (cc)
filled (x ∷ xs) ys e = omega arith

module _ {X : Type 0} (P : X → Type 0) (p : X → Bool) where
  kept_step : (x : X) (xs : List X) (b : Bool) → P x → AllByRecursion P xs → AllByRecursion P (cond b (x ∷ xs) xs)
  kept_step x xs true h k = (h, k)
  kept_step x xs false h k = k

  pub all_kept : (xs : List X) → AllByRecursion P xs → AllByRecursion P (filter p xs)
  all_kept [] h = tt
  all_kept (x ∷ xs) h = kept_step x (filter p xs) (p x) h.0 (all_kept xs h.1)

distinct_step : (r : Record RData) (rs : Records) (b : Bool) → AllByRecursion (λ q. ¬ (SameRecord r q)) rs → AreDistinct rs → AreDistinct (cond b (r ∷ rs) rs)
distinct_step r rs true h k = (h, k)
distinct_step r rs false h k = k

pub distinct_kept : (p : Record RData → Bool) (rs : Records) → AreDistinct rs → AreDistinct (filter p rs)
distinct_kept p [] h = tt
distinct_kept p (r ∷ rs) h = distinct_step r (filter p rs) (p r) (all_kept (λ q. ¬ (SameRecord r q)) p rs h.0) (distinct_kept p rs h.1)

under_each : (key : RrKey) (rs : Records) → AllByRecursion (λ r. is_of key.name key.record_type r ≡ true) rs → AllByRecursion (IsUnder key) rs
under_each key [] h = tt
under_each key (r ∷ rs) h =
    let both = both_hold _ _ h.0 in
    let s : SameName key.name r.name = same_from_eq key.name r.name both.0 in (
      record { name = record { labels = sym s.labels; marks = sym s.marks }; record_type = sym (eqb-true key.record_type (type_of r.rdata) both.1) },
      under_each key rs h.1,
    )

module _ (rs : Records) (distinct : AreDistinct rs) (typed : AllByRecursion IsWellTyped rs) where
  zone_set : (key : RrKey) (set : Records) → existing (rrset rs key.name key.record_type) ≡ Some set → IsZoneSet key set
  zone_set key set e =
      subst (IsZoneSet key) (existing_some (rrset rs key.name key.record_type) set e) (record {
        filled = filled (rrset rs key.name key.record_type) set e;
        under = under_each key (rrset rs key.name key.record_type) (passing (is_of key.name key.record_type) rs);
        distinct = distinct_kept (is_of key.name key.record_type) rs distinct;
        typed = all_kept IsWellTyped (is_of key.name key.record_type) rs typed;
      })

  zone_sets : (S es : Sets) → HoldsSets rs S → AllByRecursion (λ e. lookup (is_key e.0.name e.0.record_type) S ≡ Some e.1) es → IsZone es
  zone_sets S [] h f = tt
  zone_sets S (e ∷ es) h f = (zone_set e.0 e.1 (sym (h e.0.name e.0.record_type) ∙ f.0), zone_sets S es h f.1)

  pub zone_of : (S : Sets) → IsStrictlySortedBy key_cmp (keys_of S) → HoldsSets rs S → IsZone S
  zone_of S sorted h = zone_sets S S h (found_each key_cmp key_alike S sorted)

-- ---- the zone is that of the records

ttl_step : (q r : Record RData) (more : Records) (x : Option ℕ) (b c : Bool) → same_record q r ≡ b → (b ≡ true → c ≡ true) → ttl_at more q ≡ x
    → ttl_at (cond c (r ∷ more) more) q ≡ cond b (Some r.ttl) x
ttl_step q r more x true true e h m = ap (λ v. cond v (Some r.ttl) (ttl_at more q)) e
ttl_step q r more x true false e h m = absurd (let f : false ≡ true = h refl in cc)
ttl_step q r more x false true e h m = ap (λ v. cond v (Some r.ttl) (ttl_at more q)) e ∙ m
ttl_step q r more x false false e h m = m

-- a test that all records of an identity pass leaves its TTL
pub ttl_kept : (p : Record RData → Bool) (q : Record RData) → ((r : Record RData) → same_record q r ≡ true → p r ≡ true) → (rs : Records) → ttl_at (filter p rs) q ≡ ttl_at rs q
ttl_kept p q h [] = refl
ttl_kept p q h (r ∷ rs) = ttl_step q r (filter p rs) (ttl_at rs q) (same_record q r) (p r) refl (h r) (ttl_kept p q h rs)

existing_same : (xs ys : Records) → existing xs ≡ existing ys → xs ≡ ys
existing_same [] [] e = refl
existing_same [] (y ∷ ys) e = absurd (cc)
existing_same (x ∷ xs) [] e = absurd (cc)
existing_same (x ∷ xs) (y ∷ ys) e = cc

-- each RRset is that of the records
pub rrsets_of : (rs : Records) (S : Sets) → IsStrictlySortedBy key_cmp (keys_of S) → IsZone S → HoldsSets rs S → SameRrsets (zone_records S) rs
rrsets_of rs S sorted zone h n t = existing_same (rrset (zone_records S) n t) (rrset rs n t) (rrset_found n t S sorted zone ∙ h n t)

module _ (identity : (a b : Record RData) → IsTrue (same_record a b) ↔ SameRecord a b) where
  pub of_same_record : (q r : Record RData) → same_record q r ≡ true → is_of q.name (type_of q.rdata) r ≡ true
  of_same_record q r h =
      let s : SameRecord q r = (identity q r).0 h in
      hold_both _ _ (eq_from_same q.name r.name s.name) (eq-eqb (type_of q.rdata) (type_of r.rdata) (sym (type-lower q.rdata) ∙ ap type_of s.rdata ∙ type-lower r.rdata))

  pub same_of : (rs : Records) (S : Sets) → IsStrictlySortedBy key_cmp (keys_of S) → IsZone S → HoldsSets rs S → SameZone (zone_records S) rs
  same_of rs S sorted zone h q =
      let n : DomainName = q.name in
      let t : ℕ = type_of q.rdata in
      sym (ttl_kept (is_of n t) q (of_same_record q) (zone_records S))
      ∙ ap (λ xs. ttl_at xs q) (rrsets_of rs S sorted zone h n t)
      ∙ ttl_kept (is_of n t) q (of_same_record q) rs
