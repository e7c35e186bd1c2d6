-- One record of the update section in its turn, case by case.
use Rattle.std.proofs.Common.{◌≡◌, ◌≢◌, ◌⊎◌, inl, inr, ◌∙◌, sym, ap, refl, ℕ, Bool, true, false, cond, not, ◌&&◌, ◌||◌, List, [], ◌∷◌, filter, arith, nat_eq, zero, suc, Option, Some, None}
use Rattle.std.specs.Prelude.{Contains}
use Rattle.std.specs.List.{list_any}
use Rattle.std.proofs.lemmas.List.Elements.{Contains-append_cases, Contains-append_left, Contains-append_right}
use Rattle.wire_names.specs.rr.domain.DomainName.{DomainName}
use Rattle.wire_names.specs.rr.domain.NameOrder.{name_eq}
use Rattle.wire_names.specs.representation.NameHash.{same_from_eq}
use Rattle.wire_names.proofs.lemmas.rr.domain.SameNames.{eq_from_same}
use Rattle.wire_messages.specs.rr.RecordData.{type_of}
use Rattle.wire_messages.specs.rr.RecordSameness.{SameRecord}
use Rattle.hickory_base.specs.zone_store.ZoneRecords.{is_at}
use Rattle.hickory_store.specs.updates.Changes.{adds_nothing_new, after_record, has_ttl, in_class, in_rrset, is_added, is_deleted, is_ignored, is_in_deleted_rrsets, is_newer, is_spared, is_type, replaces_rrset}
use Rattle.hickory_store.specs.updates.Identity.{same_record, ttl_at}
use Rattle.hickory_store.specs.updates.StandsAfter.{AddsNothingNew, Deletes, HasUpdateClass, IsAdded, IsApexSoaOrNs, IsIgnored, IsOfRrset, IsOnlyNs, RecordsStandAfter, StandsAfter, StandsAlone}
use Rattle.hickory_store.proofs.lemmas.updates.ApexNs.{Records, Resource, and_both, and_left, and_right, false_or, nat_eq_is, nat_eq_so, not_so, not_true}
use Rattle.hickory_store.proofs.lemmas.updates.RecordByRecord.{Found, In, any_in, filter_in, first_or, in_any, in_filter, one_of, or_second, type-lower}
use Rattle.hickory_store.proofs.lemmas.updates.SameZones.{Identity}

-- ---- lists by their members

In-from_Contains : {X : Type 0} (x : X) (xs : List X) → Contains xs x → In x xs
In-from_Contains x [] c = absurd (omega (arith, c.1))
In-from_Contains x (y ∷ ys) (zero, less, e) = inl (sym e)
In-from_Contains x (y ∷ ys) (suc k, less, e) = inr (In-from_Contains x ys (k, omega (arith, less), e))

Contains-from_In : {X : Type 0} (x : X) (xs : List X) → In x xs → Contains xs x
Contains-from_In x [] is = absurd is
Contains-from_In x (y ∷ ys) (inl e) = (zero, omega arith, sym e)
Contains-from_In x (y ∷ ys) (inr is) = let c : Contains ys x = Contains-from_In x ys is in (suc c.0, omega (arith, c.1), c.2)

none_passes : {X : Type 0} (p : X → Bool) (xs : List X) → ((x : X) → In x xs → p x ≡ false) → list_any p xs ≡ false
none_passes p [] none = refl
none_passes p (x ∷ xs) none = both_false (p x) (list_any p xs) (none x (inl refl)) (none_passes p xs (λ y is. none y (inr is)))
  where
    both_false : (a b : Bool) → a ≡ false → b ≡ false → (a || b) ≡ false
    both_false a b h k = cc

last_is : {X : Type 0} (a : Bool) (r q : X) → Contains (cond a (r ∷ []) []) q → (q ≡ r) × (a ≡ true)
last_is true r q c = from (In-from_Contains q (r ∷ []) c)
  where
    from : In q (r ∷ []) → (q ≡ r) × (true ≡ true)
    from (inl e) = (e, refl)
    from (inr is) = absurd is
last_is false r q c = absurd (In-from_Contains q [] c)

is_last : {X : Type 0} (a : Bool) (r q : X) → a ≡ true → q ≡ r → Contains (cond a (r ∷ []) []) q
is_last true r q h e = Contains-from_In q (r ∷ []) (inl e)
is_last false r q h e = absurd (cc)

-- ---- tests

true_or : (b : Bool) → (b ≡ false → ⊥) → b ≡ true
true_or true h = refl
true_or false h = absurd (h refl)

clash : {P : Type 0} (b : Bool) → b ≡ true → b ≡ false → P
clash b h k = absurd (cc)

of_rrset : (r q : Resource) → in_rrset r q ≡ true → IsOfRrset r q
of_rrset r q h = (same_from_eq r.name q.name (and_left _ _ h), nat_eq_is (type_of q.rdata) (type_of r.rdata) (and_right (name_eq r.name q.name) _ h))

rrset_of : (r q : Resource) → IsOfRrset r q → in_rrset r q ≡ true
rrset_of r q s = and_both _ _ (eq_from_same r.name q.name s.0) (nat_eq_so (type_of q.rdata) (type_of r.rdata) s.1)

apex_is : (o : DomainName) (q : Resource) → (is_at o q && (is_type 6 q || is_type 2 q)) ≡ true → IsApexSoaOrNs o q
apex_is o q h = (
  same_from_eq o q.name (and_left _ _ h),
  elim (one_of (is_type 6 q) (is_type 2 q) (and_right (is_at o q) _ h)) as (λ _. (type_of q.rdata ≡ 6) ⊎ (type_of q.rdata ≡ 2))
      [ inl six ↦ inl (nat_eq_is (type_of q.rdata) 6 six) | inr two ↦ inr (nat_eq_is (type_of q.rdata) 2 two) ],
)

is_apex : (o : DomainName) (q : Resource) → IsApexSoaOrNs o q → (is_at o q && (is_type 6 q || is_type 2 q)) ≡ true
is_apex o q s =
    and_both _ _ (eq_from_same o q.name s.0)
    (elim s.1 as (λ _. (is_type 6 q || is_type 2 q) ≡ true)
    [ inl six ↦ first_or (is_type 6 q) (is_type 2 q) (nat_eq_so (type_of q.rdata) 6 six) | inr two ↦ or_second (is_type 6 q) (is_type 2 q) (nat_eq_so (type_of q.rdata) 2 two) ])

alone_is : (r : Resource) → replaces_rrset r ≡ true → StandsAlone r
alone_is r h =
    elim (one_of (is_type 5 r) (is_type 6 r) h) as (λ _. StandsAlone r)
    [ inl five ↦ inl (nat_eq_is (type_of r.rdata) 5 five) | inr six ↦ inr (nat_eq_is (type_of r.rdata) 6 six) ]

is_alone : (r : Resource) → StandsAlone r → replaces_rrset r ≡ true
is_alone r s =
    elim s as (λ _. replaces_rrset r ≡ true)
    [ inl five ↦ first_or (is_type 5 r) (is_type 6 r) (nat_eq_so (type_of r.rdata) 5 five) | inr six ↦ or_second (is_type 5 r) (is_type 6 r) (nat_eq_so (type_of r.rdata) 6 six) ]

-- ---- the cases

deleting : (k a s i m k2 cl sp d : Bool) → cond k (a && cond s i m) (cond k2 cl (not sp && d)) ≡ true
    → ((a ≡ true) × (s ≡ true) × (i ≡ true)) ⊎ (((a ≡ true) × (m ≡ true)) ⊎ (((k2 ≡ true) × (cl ≡ true)) ⊎ ((k ≡ false) × (k2 ≡ false) × (sp ≡ false) × (d ≡ true))))
deleting true true true i m k2 cl sp d h = inl (refl, refl, h)
deleting true true false i m k2 cl sp d h = inr (inl (refl, h))
deleting true false s i m k2 cl sp d h = absurd (cc)
deleting false a s i m true cl sp d h = inr (inr (inl (refl, h)))
deleting false a s i m false cl true d h = absurd (cc)
deleting false a s i m false cl false d h = inr (inr (inr (refl, refl, refl, h)))

by_record : (k a s i m : Bool) (other : Bool) → k ≡ true → a ≡ true → (s ≡ true → i ≡ true) → m ≡ true → cond k (a && cond s i m) other ≡ true
by_record true true true i m other p q h e = h refl
by_record true true false i m other p q h e = e
by_record true false s i m other p q h e = absurd (cc)
by_record false a s i m other p q h e = absurd (cc)

by_rrset : (k a s i m : Bool) (other : Bool) → k ≡ true → a ≡ true → s ≡ true → i ≡ true → cond k (a && cond s i m) other ≡ true
by_rrset k a s i m other p q h e = cc

by_any : (k k2 cl : Bool) (first other : Bool) → k ≡ false → k2 ≡ true → cl ≡ true → cond k first (cond k2 cl other) ≡ true
by_any k k2 cl first other p q h = cc

by_none : (k k2 cl sp d : Bool) (first : Bool) → k ≡ false → k2 ≡ false → sp ≡ false → d ≡ true → cond k first (cond k2 cl (not sp && d)) ≡ true
by_none k k2 cl sp d first p q h e = cc

-- ---- what is added

if_first : (b x y : Bool) → b ≡ true → x ≡ true → cond b x y ≡ true
if_first b x y h e = cc

if_second : (b x y : Bool) → b ≡ false → y ≡ true → cond b x y ≡ true
if_second b x y h e = cc

ttl_is : (o : Option ℕ) (t : ℕ) → has_ttl t o ≡ true → o ≡ Some t
ttl_is None t h = absurd (cc)
ttl_is (Some other) t h = ap (λ n. Some n) (nat_eq_is other t h)

is_ttl : (o : Option ℕ) (t : ℕ) → o ≡ Some t → has_ttl t o ≡ true
is_ttl None t h = absurd (cc)
is_ttl (Some other) t h = nat_eq_so other t (some_is other t h)
  where
    some_is : (m n : ℕ) → ◌≡◌ {A = Option ℕ} (Some m) (Some n) → m ≡ n
    some_is m n h = cc

module _ (z : Records) (r : Resource) where
  -- the tests of `is_ignored`
  beside_other : Resource → Bool
  beside_other q = is_at r.name q && not (is_type 5 q)

  beside_cname : Resource → Bool
  beside_cname q = is_at r.name q && is_type 5 q

  as_new : Resource → Bool
  as_new q = in_rrset r q && not (is_newer r.rdata q.rdata)

  not_five : (q : Resource) → type_of q.rdata ≢ 5 → is_type 5 q ≡ false
  not_five q other = false_or (is_type 5 q) (λ t. other (nat_eq_is (type_of q.rdata) 5 t))

  five_not : (q : Resource) → is_type 5 q ≡ false → type_of q.rdata ≢ 5
  five_not q h t = clash (is_type 5 q) (nat_eq_so (type_of q.rdata) 5 t) h

  soa_ignored : is_type 6 r ≡ true → (not (list_any (in_rrset r) z) || list_any as_new z) ≡ true → IsIgnored z r
  unfolding as_new
  soa_ignored six h =
      let soa : type_of r.rdata ≡ 6 = nat_eq_is (type_of r.rdata) 6 six in
      elim (one_of (not (list_any (in_rrset r) z)) (list_any as_new z) h) as (λ _. IsIgnored z r) [
        | inl none ↦ IsIgnored.soa_where_none soa (λ q c i. clash (list_any (in_rrset r) z) (any_in (in_rrset r) q z (In-from_Contains q z c) (rrset_of r q i)) (not_true _ none))
        | inr old ↦ let f : Found as_new z = in_any as_new z old in
            IsIgnored.soa_not_newer soa (Contains-from_In f.element z f.is_in) (of_rrset r f.element (and_left _ _ f.passes))
            (λ newer. clash (is_newer r.rdata f.element.rdata) newer (not_true _ (and_right (in_rrset r f.element) _ f.passes)))
      ]

  ignored_when : (five : Bool) → is_type 5 r ≡ five
      → cond five (list_any beside_other z) (list_any beside_cname z || (is_type 6 r && (not (list_any (in_rrset r) z) || list_any as_new z))) ≡ true → IsIgnored z r
  unfolding beside_other beside_cname
  ignored_when true e h =
      let f : Found beside_other z = in_any beside_other z h in
      IsIgnored.cname_beside_other (nat_eq_is (type_of r.rdata) 5 e) (Contains-from_In f.element z f.is_in) (same_from_eq r.name f.element.name (and_left _ _ f.passes))
      (five_not f.element (not_true _ (and_right (is_at r.name f.element) _ f.passes)))
  ignored_when false e h =
      elim (one_of (list_any beside_cname z) _ h) as (λ _. IsIgnored z r) [
        | inl beside ↦ let f : Found beside_cname z = in_any beside_cname z beside in
            IsIgnored.other_beside_cname (five_not r e) (Contains-from_In f.element z f.is_in) (same_from_eq r.name f.element.name (and_left _ _ f.passes))
            (nat_eq_is (type_of f.element.rdata) 5 (and_right (is_at r.name f.element) _ f.passes))
        | inr soa ↦ soa_ignored (and_left _ _ soa) (and_right (is_type 6 r) _ soa)
      ]

  pub ignored : is_ignored z r ≡ true → IsIgnored z r
  unfolding beside_other beside_cname as_new
  ignored h = ignored_when (is_type 5 r) refl h

  soa_is_ignored : type_of r.rdata ≡ 6 → (not (list_any (in_rrset r) z) || list_any as_new z) ≡ true → is_ignored z r ≡ true
  unfolding as_new
  soa_is_ignored six h =
      if_second (is_type 5 r) _ _ (ap (λ t. nat_eq t 5) six)
      (or_second (list_any (λ q. is_at r.name q && is_type 5 q) z) _ (and_both (is_type 6 r) _ (nat_eq_so (type_of r.rdata) 6 six) h))

  pub is_so_ignored : IsIgnored z r → is_ignored z r ≡ true
  unfolding as_new beside_other beside_cname
  is_so_ignored (IsIgnored.cname_beside_other {q} five c at other) =
      if_first (is_type 5 r) _ _ (nat_eq_so (type_of r.rdata) 5 five)
      (any_in beside_other q z (In-from_Contains q z c) (and_both (is_at r.name q) _ (eq_from_same r.name q.name at) (not_so _ (not_five q other))))
  is_so_ignored (IsIgnored.other_beside_cname {q} other c at five) =
      if_second (is_type 5 r) _ _ (not_five r other)
      (first_or _ _ (any_in beside_cname q z (In-from_Contains q z c) (and_both (is_at r.name q) _ (eq_from_same r.name q.name at) (nat_eq_so (type_of q.rdata) 5 five))))
  is_so_ignored (IsIgnored.soa_where_none six none) =
      soa_is_ignored six
      (first_or _ _ (not_so _ (none_passes (in_rrset r) z (λ q is. false_or (in_rrset r q) (λ t. none q (Contains-from_In q z is) (of_rrset r q t))))))
  is_so_ignored (IsIgnored.soa_not_newer {q} six c i older) =
      soa_is_ignored six
      (or_second (not (list_any (in_rrset r) z)) _ (any_in as_new q z (In-from_Contains q z c) (and_both (in_rrset r q) _ (rrset_of r q i) (not_so _ (false_or _ older)))))

  module _ (identity : Identity) where
    another : Resource → Bool
    another q = in_rrset r q && not (same_record r q)

    nothing_new : adds_nothing_new false z r ≡ true → AddsNothingNew z r
    unfolding another
    nothing_new h = (
      ttl_is (ttl_at z r) r.ttl (and_left _ _ h),
      λ alone q c i. (identity r q).0 (true_or (same_record r q) (λ apart.
          clash (replaces_rrset r && list_any another z)
          (and_both (replaces_rrset r) _ (is_alone r alone) (any_in another q z (In-from_Contains q z c) (and_both (in_rrset r q) _ (rrset_of r q i) (not_so _ apart))))
          (not_true _ (and_left _ _ (and_right (has_ttl r.ttl (ttl_at z r)) _ h))))),
    )

    is_nothing_new : AddsNothingNew z r → adds_nothing_new false z r ≡ true
    unfolding another
    is_nothing_new s =
        and_both (has_ttl r.ttl (ttl_at z r)) _ (is_ttl (ttl_at z r) r.ttl s.0)
        (and_both _ true (not_so _ (false_or (replaces_rrset r && list_any another z) (λ t.
        let f : Found another z = in_any another z (and_right (replaces_rrset r) _ t) in
        clash (same_record r f.element)
        ((identity r f.element).1 (s.1 (alone_is r (and_left _ _ t)) f.element (Contains-from_In f.element z f.is_in) (of_rrset r f.element (and_left _ _ f.passes))))
        (not_true _ (and_right (in_rrset r f.element) _ f.passes))))) refl)

    pub added : is_added false z r ≡ true → IsAdded z r
    added h =
        let rest = and_right (nat_eq r.dns_class 1) _ h in (
          nat_eq_is r.dns_class 1 (and_left _ _ h),
          λ i. clash (is_ignored z r) (is_so_ignored i) (not_true _ (and_left _ _ rest)),
          λ n. clash (adds_nothing_new false z r) (is_nothing_new n) (not_true _ (and_right (not (is_ignored z r)) _ rest)),
        )

    pub is_so_added : IsAdded z r → is_added false z r ≡ true
    is_so_added s =
        and_both (nat_eq r.dns_class 1) _ (nat_eq_so r.dns_class 1 s.0)
        (and_both _ _ (not_so _ (false_or (is_ignored z r) (λ h. s.1 (ignored h)))) (not_so _ (false_or (adds_nothing_new false z r) (λ h. s.2 (nothing_new h)))))

-- ---- what is deleted

module _ (identity : Identity) (o : DomainName) (z : Records) (r : Resource) where
  not_soa : is_spared false o z r ≡ false → type_of r.rdata ≢ 6
  not_soa h e = clash (is_spared false o z r) (first_or (is_type 6 r) _ (nat_eq_so (type_of r.rdata) 6 e)) h

  not_only : is_spared false o z r ≡ false → ¬ (IsOnlyNs z r)
  not_only h only =
      clash (is_spared false o z r)
      (or_second (is_type 6 r) _
      (and_both (is_type 2 r) _ (nat_eq_so (type_of r.rdata) 2 only.0)
      (not_so (list_any (λ q. in_rrset r q && not (same_record (in_class r) q)) z)
      (none_passes (λ q. in_rrset r q && not (same_record (in_class r) q)) z (λ q is.
      false_or (in_rrset r q && not (same_record (in_class r) q)) (λ t.
      clash (same_record (in_class r) q) ((identity (in_class r) q).1 (only.1 q (Contains-from_In q z is) (of_rrset r q (and_left _ _ t)))) (not_true _ (and_right (in_rrset r q) _ t))))))))
      h

  unspared : type_of r.rdata ≢ 6 → ¬ (IsOnlyNs z r) → is_spared false o z r ≡ false
  unspared no_soa no_only =
      false_or (is_spared false o z r) (λ h. elim (one_of (is_type 6 r) (is_type 2 r && not (list_any (λ q. in_rrset r q && not (same_record (in_class r) q)) z)) h) as (λ _. ⊥) [
        | inl six ↦ no_soa (nat_eq_is (type_of r.rdata) 6 six)
        | inr two ↦ no_only (
          nat_eq_is (type_of r.rdata) 2 (and_left _ _ two),
          λ q c i. (identity (in_class r) q).0 (true_or (same_record (in_class r) q) (λ apart.
              clash (list_any (λ q. in_rrset r q && not (same_record (in_class r) q)) z)
              (any_in (λ q. in_rrset r q && not (same_record (in_class r) q)) q z (In-from_Contains q z c) (and_both (in_rrset r q) _ (rrset_of r q i) (not_so _ apart)))
              (not_true _ (and_right (is_type 2 r) _ two)))),
        )
      ])

  -- what class ANY deletes
  by_class_any : (q : Resource) → r.dns_class ≡ 255 → is_in_deleted_rrsets o r q ≡ true → Deletes o z r q
  by_class_any q any h =
      let t = and_right (is_at r.name q) _ h in
      let kept : ¬ (IsApexSoaOrNs o q) = λ s. clash (is_at o q && (is_type 6 q || is_type 2 q)) (is_apex o q s) (not_true _ (and_right (is_type 255 r || is_type (type_of r.rdata) q) _ t)) in
      elim (one_of (is_type 255 r) (is_type (type_of r.rdata) q) (and_left _ _ t)) as (λ _. Deletes o z r q) [
        | inl all ↦ Deletes.deletes_name any (nat_eq_is (type_of r.rdata) 255 all) (same_from_eq r.name q.name (and_left _ _ h)) kept
        | inr one ↦ Deletes.deletes_rrset any (same_from_eq r.name q.name (and_left _ _ h), nat_eq_is (type_of q.rdata) (type_of r.rdata) one) kept
      ]

  outside_apex : (q : Resource) → ¬ (IsApexSoaOrNs o q) → not (is_at o q && (is_type 6 q || is_type 2 q)) ≡ true
  outside_apex q kept = not_so _ (false_or _ (λ t. kept (apex_is o q t)))

  none_class : HasUpdateClass r → nat_eq r.dns_class 1 ≡ false → nat_eq r.dns_class 255 ≡ false → r.dns_class ≡ 254
  none_class (inl e) h k = clash (nat_eq r.dns_class 1) (nat_eq_so r.dns_class 1 e) h
  none_class (inr (inl e)) h k = clash (nat_eq r.dns_class 255) (nat_eq_so r.dns_class 255 e) k
  none_class (inr (inr e)) h k = e

  deletes : (q : Resource) → HasUpdateClass r → is_deleted false o z r q ≡ true → Deletes o z r q
  deletes q class h =
      elim (deleting (nat_eq r.dns_class 1) (is_added false z r) (replaces_rrset r) (in_rrset r q) (same_record r q) (nat_eq r.dns_class 255) (is_in_deleted_rrsets o r q) (is_spared false o z r) (same_record (in_class r) q) h) as (λ _. Deletes o z r q) [
        | inl w ↦ Deletes.replaces_rrset (added z r identity w.0) (alone_is r w.1) (of_rrset r q w.2)
        | inr v ↦ elim v as (λ _. Deletes o z r q) [
          | inl w ↦ Deletes.replaces_record (added z r identity w.0) ((identity r q).0 w.1)
          | inr u ↦ elim u as (λ _. Deletes o z r q) [
            | inl w ↦ by_class_any q (nat_eq_is r.dns_class 255 w.0) w.1
            | inr w ↦ Deletes.deletes_record (none_class class w.0 w.1) ((identity (in_class r) q).0 w.3) (not_soa w.2) (not_only w.2)
          ]
        ]
      ]

  -- one record has the type of another that is the same
  same_rrset : (q : Resource) → SameRecord r q → in_rrset r q ≡ true
  same_rrset q s = rrset_of r q (s.name, sym (type-lower q.rdata) ∙ sym (ap type_of s.rdata) ∙ type-lower r.rdata)

  other_class : (n : ℕ) → r.dns_class ≡ n → nat_eq n 1 ≡ false → nat_eq r.dns_class 1 ≡ false
  other_class n e h = ap (λ k. nat_eq k 1) e ∙ h

  is_so : (q : Resource) → Deletes o z r q → is_deleted false o z r q ≡ true
  is_so q (Deletes.replaces_record comes same) =
      by_record (nat_eq r.dns_class 1) (is_added false z r) (replaces_rrset r) (in_rrset r q) (same_record r q) _ (nat_eq_so r.dns_class 1 comes.0) (is_so_added z r identity comes) (λ _. same_rrset q same) ((identity r q).1 same)
  is_so q (Deletes.replaces_rrset comes alone of) =
      by_rrset (nat_eq r.dns_class 1) (is_added false z r) (replaces_rrset r) (in_rrset r q) (same_record r q) _ (nat_eq_so r.dns_class 1 comes.0) (is_so_added z r identity comes) (is_alone r alone) (rrset_of r q of)
  is_so q (Deletes.deletes_rrset any of kept) =
      by_any (nat_eq r.dns_class 1) (nat_eq r.dns_class 255) (is_in_deleted_rrsets o r q) _ _ (other_class 255 any refl) (nat_eq_so r.dns_class 255 any)
      (and_both (is_at r.name q) _ (eq_from_same r.name q.name of.0) (and_both _ _ (or_second (is_type 255 r) _ (nat_eq_so (type_of q.rdata) (type_of r.rdata) of.1)) (outside_apex q kept)))
  is_so q (Deletes.deletes_name any all at kept) =
      by_any (nat_eq r.dns_class 1) (nat_eq r.dns_class 255) (is_in_deleted_rrsets o r q) _ _ (other_class 255 any refl) (nat_eq_so r.dns_class 255 any)
      (and_both (is_at r.name q) _ (eq_from_same r.name q.name at) (and_both _ _ (first_or (is_type 255 r) _ (nat_eq_so (type_of r.rdata) 255 all)) (outside_apex q kept)))
  is_so q (Deletes.deletes_record none same no_soa no_only) =
      by_none (nat_eq r.dns_class 1) (nat_eq r.dns_class 255) (is_in_deleted_rrsets o r q) (is_spared false o z r) (same_record (in_class r) q) _ (other_class 254 none refl)
      (ap (λ k. nat_eq k 255) none) (unspared no_soa no_only) ((identity (in_class r) q).1 same)

  to_standing : (q : Resource) → HasUpdateClass r → Contains (after_record false o z r) q → StandsAfter o z r q
  unfolding after_record
  to_standing q class c =
      elim (Contains-append_cases (filter (λ q. not (is_deleted false o z r q)) z) (cond (is_added false z r) (r ∷ []) []) q c) as (λ _. StandsAfter o z r q) [
        | inl kept ↦ let both = in_filter (λ q. not (is_deleted false o z r q)) q z (In-from_Contains q _ kept) in
            inr (Contains-from_In q z both.0, λ d. clash (is_deleted false o z r q) (is_so q d) (not_true _ both.1))
        | inr last ↦ let l = last_is (is_added false z r) r q last in inl (l.0, added z r identity l.1)
      ]

  from_standing : (q : Resource) → HasUpdateClass r → StandsAfter o z r q → Contains (after_record false o z r) q
  unfolding after_record
  from_standing q class (inl last) =
      Contains-append_right (filter (λ q. not (is_deleted false o z r q)) z) (cond (is_added false z r) (r ∷ []) []) q (is_last (is_added false z r) r q (is_so_added z r identity last.1) last.0)
  from_standing q class (inr stood) =
      Contains-append_left (filter (λ q. not (is_deleted false o z r q)) z) (cond (is_added false z r) (r ∷ []) []) q
      (Contains-from_In q _ (filter_in (λ q. not (is_deleted false o z r q)) q z (In-from_Contains q z stood.0) (not_so _ (false_or (is_deleted false o z r q) (λ h. stood.1 (deletes q class h))))))

pub records_stand_after : Identity → RecordsStandAfter
records_stand_after identity o z r q class = (to_standing identity o z r q class, from_standing identity o z r q class)
