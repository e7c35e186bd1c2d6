-- What updates do to two lists that stand for one zone is the same: each test of a turn sees identities and TTLs alone.
use Rattle.std.proofs.Common.{◌≡◌, ◌∙◌, ap, sym, refl, ℕ, Bool, true, false, cond, not, ◌&&◌, ◌||◌, ◌++◌, [], ◌∷◌, filter, Option, Some, None}
use Rattle.std.specs.Prelude.{◌↔◌, ◌==◌, IsTrue}
use Rattle.std.specs.List.{list_any}
use Rattle.std.specs.Option.{is_some, option_or}
use Rattle.std.specs.Ordering.{is_eq}
use Rattle.wire_names.specs.rr.domain.DomainName.{DomainName}
use Rattle.wire_messages.specs.rr.RecordData.{type_of}
use Rattle.wire_messages.specs.rr.RecordSameness.{SameRecord, lower_data}
use Rattle.wire_messages.specs.declared.rr.rdata.RData.{RData}
use Rattle.wire_messages.specs.declared.rr.rdata.RData.TheVariants as rdata
use Rattle.wire_names.proofs.lemmas.rr.domain.SameNames.{both_ways, same_order}
use Rattle.hickory_base.specs.zone_store.ZoneRecords.{is_at}
use Rattle.hickory_store.specs.updates.Changes.{is_added, after_updates, is_deleted_when, has_ttl, in_class, in_rrset, is_in_deleted_rrsets, is_ignored, is_newer, is_spared, adds_nothing_new, is_type, replaces_rrset, after_counted, after_record, after_record_when, counted, has_other_ttl, one_ttl}
use Rattle.hickory_store.specs.updates.Identity.{SameZone, same_record, ttl_at}
use Rattle.hickory_store.proofs.lemmas.updates.ApexNs.{Records, Resource, and_left, and_right}
use Rattle.hickory_store.proofs.lemmas.updates.OneTtl.{any_alike}
use Rattle.hickory_store.proofs.lemmas.updates.RecordByRecord.{itself}
use Rattle.hickory_store.proofs.lemmas.updates.UpdatedZones.{same_back, same_type}

-- ---- TTLs of lists that are put together

append_step : (b : Bool) (t : ℕ) (x y : Option ℕ) → cond b (Some t) (option_or x y) ≡ option_or (cond b (Some t) x) y
append_step true t x y = refl
append_step false t x y = refl

pub ttl_append : (z w : Records) (q : Resource) → ttl_at (z ++ w) q ≡ option_or (ttl_at z q) (ttl_at w q)
ttl_append [] w q = refl
ttl_append (r ∷ z) w q = ap (λ x. cond (same_record q r) (Some r.ttl) x) (ttl_append z w q) ∙ append_step (same_record q r) r.ttl (ttl_at z q) (ttl_at w q)

-- ---- a record is in a zone where it has a TTL

here : (b m : Bool) (t : ℕ) (x : Option ℕ) → is_some x ≡ m → is_some (cond b (Some t) x) ≡ (b || m)
here true m t x h = refl
here false m t x h = h

pub some_ttl : (z : Records) (q : Resource) → is_some (ttl_at z q) ≡ list_any (same_record q) z
some_ttl [] q = refl
some_ttl (r ∷ z) q = here (same_record q r) (list_any (same_record q) z) r.ttl (ttl_at z q) (some_ttl z q)

or_true_left : (a b : Bool) → a ≡ true → (a || b) ≡ true
or_true_left true b h = refl
or_true_left false b h = cc

or_true_right : (a b : Bool) → b ≡ true → (a || b) ≡ true
or_true_right true b h = refl
or_true_right false b h = h

newer_lower : (d e : RData) → is_newer d (lower_data e) ≡ is_newer d e
newer_lower (rdata.SOA s) (rdata.A x) = refl
newer_lower (rdata.SOA s) (rdata.AAAA x) = refl
newer_lower (rdata.SOA s) (rdata.NS x) = refl
newer_lower (rdata.SOA s) (rdata.CNAME x) = refl
newer_lower (rdata.SOA s) (rdata.PTR x) = refl
newer_lower (rdata.SOA s) (rdata.MX x) = refl
newer_lower (rdata.SOA s) (rdata.SOA x) = refl
newer_lower (rdata.SOA s) (rdata.TXT x) = refl
newer_lower (rdata.SOA s) (rdata.OPT x) = refl
newer_lower (rdata.SOA s) (rdata.TSIG x) = refl
newer_lower (rdata.SOA s) (rdata.NULL x) = refl
newer_lower (rdata.SOA s) (rdata.Update0 x) = refl
newer_lower (rdata.SOA s) (rdata.Unknown x y) = refl
newer_lower _ e = refl

abbrev pub Identity : Type 0
Identity = (a b : Resource) → IsTrue (same_record a b) ↔ SameRecord a b

-- a test that sees only identities
abbrev pub Respects : (Resource → Bool) → Type 0
Respects p = (q r : Resource) → same_record q r ≡ true → p r ≡ p q

pub both_respect : (p s : Resource → Bool) → Respects p → Respects s → Respects (λ q. p q && s q)
both_respect p s f g q r h = ap (λ x. x && s r) (f q r h) ∙ ap (λ x. p q && x) (g q r h)

pub not_respects : (p : Resource → Bool) → Respects p → Respects (λ q. not (p q))
not_respects p f q r h = ap not (f q r h)

filter_step : (q r : Resource) (more z : Records) (b pr pq : Bool) → same_record q r ≡ b → (b ≡ true → pr ≡ pq) → ttl_at more q ≡ cond pq (ttl_at z q) None
    → ttl_at (cond pr (r ∷ more) more) q ≡ cond pq (cond b (Some r.ttl) (ttl_at z q)) None
filter_step q r more z true true true e h k = ap (λ v. cond v (Some r.ttl) (ttl_at more q)) e
filter_step q r more z true true false e h k = absurd (let f : true ≡ false = h refl in cc)
filter_step q r more z true false true e h k = absurd (let f : false ≡ true = h refl in cc)
filter_step q r more z true false false e h k = k
filter_step q r more z false true pq e h k = ap (λ v. cond v (Some r.ttl) (ttl_at more q)) e ∙ k
filter_step q r more z false false pq e h k = k

pub ttl_filter : (p : Resource → Bool) → Respects p → (z : Records) (q : Resource) → ttl_at (filter p z) q ≡ cond (p q) (ttl_at z q) None
ttl_filter p s [] q = none (p q)
  where
    none : (b : Bool) → ◌≡◌ {A = Option ℕ} None (cond b None None)
    none true = refl
    none false = refl
ttl_filter p s (r ∷ z) q = filter_step q r (filter p z) z (same_record q r) (p r) (p q) refl (λ e. s q r e) (ttl_filter p s z q)

module _ (identity : Identity) where
  pub same_itself : (r : Resource) → same_record r r ≡ true
  same_itself r = (identity r r).1 (record { name = itself r.name; class = refl; rdata = refl })

  pub same_turned : (a b : Resource) → same_record a b ≡ true → same_record b a ≡ true
  same_turned a b h = (identity b a).1 (same_back a b ((identity a b).0 h))

  pub same_via : (a b d : Resource) → same_record a b ≡ true → same_record b d ≡ true → same_record a d ≡ true
  same_via a b d h k =
      let s : SameRecord a b = (identity a b).0 h in
      let t : SameRecord b d = (identity b d).0 k in
      (identity a d).1 (record { name = record { labels = s.name.labels ∙ t.name.labels; marks = s.name.marks ∙ t.name.marks }; class = s.class ∙ t.class; rdata = s.rdata ∙ t.rdata })

  pub name_respects : (n : DomainName) → Respects (is_at n)
  name_respects n q r h = ap is_eq (same_order n r.name n q.name (itself n) (same_back q r ((identity q r).0 h)).name)

  pub type_respects : (t : ℕ) → Respects (is_type t)
  type_respects t q r h = ap (λ u. u == t) (sym (same_type q r ((identity q r).0 h)))

  pub same_respects : (u : Resource) → Respects (same_record u)
  same_respects u q r h = both_ways (same_record u r) (same_record u q) (λ k. same_via u r q k (same_turned q r h)) (λ k. same_via u q r k h)

  pub newer_respects : (d : RData) → Respects (λ q. is_newer d q.rdata)
  newer_respects d q r h = sym (newer_lower d r.rdata) ∙ ap (is_newer d) (sym ((identity q r).0 h).rdata) ∙ newer_lower d q.rdata

  -- ---- a record that passes

  found_step : (p : Resource → Bool) (r : Resource) (z : Records) (b : Bool) → p r ≡ b → (b || list_any p z) ≡ true
      → (list_any p z ≡ true → (q : Resource) × (p q ≡ true) × (list_any (same_record q) z ≡ true)) → (q : Resource) × (p q ≡ true) × (list_any (same_record q) (r ∷ z) ≡ true)
  found_step p r z true e h m = (r, e, or_true_left (same_record r r) (list_any (same_record r) z) (same_itself r))
  found_step p r z false e h m =
      let f : (q : Resource) × (p q ≡ true) × (list_any (same_record q) z ≡ true) = m h in
      (f.0, f.1, or_true_right (same_record f.0 r) (list_any (same_record f.0) z) f.2)

  pub found : (p : Resource → Bool) (z : Records) → list_any p z ≡ true → (q : Resource) × (p q ≡ true) × (list_any (same_record q) z ≡ true)
  found p [] h = absurd (cc)
  found p (r ∷ z) h = found_step p r z (p r) refl h (found p z)

  passes_step : (p : Resource → Bool) (q r : Resource) (z : Records) (b : Bool) → same_record q r ≡ b → Respects p → p q ≡ true → (b || list_any (same_record q) z) ≡ true
      → (list_any (same_record q) z ≡ true → list_any p z ≡ true) → (p r || list_any p z) ≡ true
  passes_step p q r z true e s k h m = or_true_left (p r) (list_any p z) (s q r e ∙ k)
  passes_step p q r z false e s k h m = or_true_right (p r) (list_any p z) (m h)

  pub passes : (p : Resource → Bool) → Respects p → (q : Resource) → p q ≡ true → (z : Records) → list_any (same_record q) z ≡ true → list_any p z ≡ true
  passes p s q k [] h = h
  passes p s q k (r ∷ z) h = passes_step p q r z (same_record q r) refl s k h (passes p s q k z)

  one_way : (p : Resource → Bool) → Respects p → (z w : Records) → SameZone z w → list_any p z ≡ true → list_any p w ≡ true
  one_way p s z w h e =
      let f : (q : Resource) × (p q ≡ true) × (list_any (same_record q) z ≡ true) = found p z e in
      passes p s f.0 f.1 w (sym (some_ttl w f.0) ∙ ap is_some (sym (h f.0)) ∙ some_ttl z f.0 ∙ f.2)

  pub any_same : (p : Resource → Bool) → Respects p → (z w : Records) → SameZone z w → list_any p z ≡ list_any p w
  any_same p s z w h = both_ways (list_any p z) (list_any p w) (one_way p s z w h) (one_way p s w z (λ q. sym (h q)))

  -- ---- the tests of a turn

  pub rrset_respects : (u : Resource) → Respects (in_rrset u)
  rrset_respects u = both_respect (is_at u.name) (is_type (type_of u.rdata)) (name_respects u.name) (type_respects (type_of u.rdata))

  ignored_of : Bool → Bool → Bool → Bool → Bool → Bool → Bool
  ignored_of five six beside cnames sets serials = cond five beside (cnames || (six && (not sets || serials)))

  ignored_same : (z w : Records) (r : Resource) → SameZone z w → is_ignored z r ≡ is_ignored w r
  unfolding ignored_of
  ignored_same z w r h =
      let beside : Resource → Bool = λ q. is_at r.name q && not (is_type 5 q) in
      let cnames : Resource → Bool = λ q. is_at r.name q && is_type 5 q in
      let serials : Resource → Bool = λ q. in_rrset r q && not (is_newer r.rdata q.rdata) in
      ap (λ x. ignored_of (is_type 5 r) (is_type 6 r) x (list_any cnames z) (list_any (in_rrset r) z) (list_any serials z))
      (any_same beside (both_respect (is_at r.name) (λ q. not (is_type 5 q)) (name_respects r.name) (not_respects (is_type 5) (type_respects 5))) z w h)
      ∙ ap (λ x. ignored_of (is_type 5 r) (is_type 6 r) (list_any beside w) x (list_any (in_rrset r) z) (list_any serials z))
      (any_same cnames (both_respect (is_at r.name) (is_type 5) (name_respects r.name) (type_respects 5)) z w h)
      ∙ ap (λ x. ignored_of (is_type 5 r) (is_type 6 r) (list_any beside w) (list_any cnames w) x (list_any serials z)) (any_same (in_rrset r) (rrset_respects r) z w h)
      ∙ ap (λ x. ignored_of (is_type 5 r) (is_type 6 r) (list_any beside w) (list_any cnames w) (list_any (in_rrset r) w) x)
      (any_same serials (both_respect (in_rrset r) (λ q. not (is_newer r.rdata q.rdata)) (rrset_respects r) (not_respects (λ q. is_newer r.rdata q.rdata) (newer_respects r.rdata))) z w h)

  -- records of one identity are found as one
  pub same_first : (a b r : Resource) → same_record a b ≡ true → same_record a r ≡ same_record b r
  same_first a b r h = both_ways (same_record a r) (same_record b r) (λ k. same_via b a r (same_turned a b h) k) (λ k. same_via a b r h k)

  pub ttl_same : (a b : Resource) → same_record a b ≡ true → (z : Records) → ttl_at z a ≡ ttl_at z b
  ttl_same a b h [] = refl
  ttl_same a b h (r ∷ z) = ap (λ m. cond m (Some r.ttl) (ttl_at z a)) (same_first a b r h) ∙ ap (λ x. cond (same_record b r) (Some r.ttl) x) (ttl_same a b h z)

  pub other_ttl_respects : (z : Records) (r : Resource) → Respects (λ q. in_rrset r q && not (has_ttl r.ttl (ttl_at z q)))
  other_ttl_respects z r =
      both_respect (in_rrset r) (λ q. not (has_ttl r.ttl (ttl_at z q))) (rrset_respects r) (λ q x e. ap (λ o. not (has_ttl r.ttl o)) (sym (ttl_same q x e z)))

  other_ttl_same : (z w : Records) (r : Resource) → SameZone z w → has_other_ttl z r ≡ has_other_ttl w r
  other_ttl_same z w r h =
      any_same (λ q. in_rrset r q && not (has_ttl r.ttl (ttl_at z q))) (other_ttl_respects z r) z w h
      ∙ any_alike (λ q. in_rrset r q && not (has_ttl r.ttl (ttl_at z q))) (λ q. in_rrset r q && not (has_ttl r.ttl (ttl_at w q))) (λ q. ap (λ o. in_rrset r q && not (has_ttl r.ttl o)) (h q)) w

  -- a record with another TTL than r is found at the first of its identity
  module _ (zone : Records) (r : Resource) where
    abbrev differs : Resource → Bool
    differs q = in_rrset r q && not (has_ttl r.ttl (ttl_at zone q))

    abbrev differs_itself : Resource → Bool
    differs_itself q = in_rrset r q && (not (q.ttl == r.ttl) && not (has_ttl r.ttl (ttl_at zone q)))

    weaker : (a b c : Bool) → (a && (b && c)) ≡ true → (a && c) ≡ true
    weaker true true c h = h
    weaker true false c h = cc
    weaker false b c h = cc

    stronger : (a b c d : Bool) → a ≡ true → b ≡ true → (d && c) ≡ true → (a && (b && c)) ≡ true
    stronger true true c true h k e = e
    stronger true true c false h k e = cc
    stronger true false c d h k e = cc
    stronger false b c d h k e = cc

    weaker_step : (q : Resource) (z : Records) (b : Bool) → differs_itself q ≡ b → (b || list_any differs_itself z) ≡ true
        → (list_any differs_itself z ≡ true → list_any differs z ≡ true) → (differs q || list_any differs z) ≡ true
    weaker_step q z true e h m = or_true_left (differs q) (list_any differs z) (weaker (in_rrset r q) (not (q.ttl == r.ttl)) (not (has_ttl r.ttl (ttl_at zone q))) e)
    weaker_step q z false e h m = or_true_right (differs q) (list_any differs z) (m h)

    any_weaker : (z : Records) → list_any differs_itself z ≡ true → list_any differs z ≡ true
    any_weaker [] h = h
    any_weaker (q ∷ z) h = weaker_step q z (differs_itself q) refl h (any_weaker z)

    first_step : (q x : Resource) (z : Records) (b : Bool) → differs q ≡ true → same_record q x ≡ b → (b || list_any (same_record q) z) ≡ true
        → cond b (Some x.ttl) (ttl_at z q) ≡ ttl_at zone q → (list_any (same_record q) z ≡ true → ttl_at z q ≡ ttl_at zone q → list_any differs_itself z ≡ true)
        → (differs_itself x || list_any differs_itself z) ≡ true
    first_step q x z true d s h e m =
        or_true_left (differs_itself x) (list_any differs_itself z)
        (stronger (in_rrset r x) (not (x.ttl == r.ttl)) (not (has_ttl r.ttl (ttl_at zone x))) (in_rrset r x)
        (rrset_respects r q x s ∙ and_left _ _ d)
        (ap (λ o. not (has_ttl r.ttl o)) e ∙ and_right (in_rrset r q) _ d)
        (other_ttl_respects zone r q x s ∙ d))
    first_step q x z false d s h e m = or_true_right (differs_itself x) (list_any differs_itself z) (m h e)

    first_differs : (q : Resource) → differs q ≡ true → (z : Records) → list_any (same_record q) z ≡ true → ttl_at z q ≡ ttl_at zone q → list_any differs_itself z ≡ true
    first_differs q d [] h e = absurd (cc)
    first_differs q d (x ∷ z) h e = first_step q x z (same_record q x) d refl h e (first_differs q d z)

    pub other_ttl_found : list_any (λ q. in_rrset r q && (not (q.ttl == r.ttl) && not (has_ttl r.ttl (ttl_at zone q)))) zone ≡ has_other_ttl zone r
    other_ttl_found =
        both_ways (list_any differs_itself zone) (list_any differs zone) (any_weaker zone)
        (λ h. let f : (q : Resource) × (differs q ≡ true) × (list_any (same_record q) zone ≡ true) = found differs zone h in first_differs f.0 f.1 zone f.2 refl)

  pub there_same : (f : Bool) (z w : Records) (r : Resource) → SameZone z w → adds_nothing_new f z r ≡ adds_nothing_new f w r
  there_same f z w r h =
      let another : Resource → Bool = λ q. in_rrset r q && not (same_record r q) in
      ap (λ t. has_ttl r.ttl t && (not (replaces_rrset r && list_any another z) && not (f && has_other_ttl z r))) (h r)
      ∙ ap (λ x. has_ttl r.ttl (ttl_at w r) && (not (replaces_rrset r && x) && not (f && has_other_ttl z r)))
      (any_same another (both_respect (in_rrset r) (λ q. not (same_record r q)) (rrset_respects r) (not_respects (same_record r) (same_respects r))) z w h)
      ∙ ap (λ x. has_ttl r.ttl (ttl_at w r) && (not (replaces_rrset r && list_any another w) && not (f && x))) (other_ttl_same z w r h)

  pub comes_same : (f : Bool) (z w : Records) (r : Resource) → SameZone z w → is_added f z r ≡ is_added f w r
  comes_same f z w r h =
      ap (λ x. (r.dns_class == 1) && (not x && not (adds_nothing_new f z r))) (ignored_same z w r h) ∙ ap (λ x. (r.dns_class == 1) && (not (is_ignored w r) && not x)) (there_same f z w r h)

  pub spared_same : (f : Bool) (o : DomainName) (z w : Records) (r : Resource) → SameZone z w → is_spared f o z r ≡ is_spared f o w r
  spared_same f o z w r h =
      ap (λ x. (not f || is_at o r) && (is_type 6 r || (is_type 2 r && not x)))
      (any_same (λ q. in_rrset r q && not (same_record (in_class r) q)) (both_respect (in_rrset r) (λ q. not (same_record (in_class r) q)) (rrset_respects r) (not_respects (same_record (in_class r)) (same_respects (in_class r)))) z w h)

  cleared_of : Bool → Bool → Bool → Bool → Bool → Bool → Bool
  cleared_of named any kind apex six two = named && ((any || kind) && not (apex && (six || two)))

  cleared_respects : (o : DomainName) (u : Resource) → Respects (is_in_deleted_rrsets o u)
  unfolding cleared_of
  cleared_respects o u q r h =
      let t = type_of u.rdata in
      let any = is_type 255 u in
      ap (λ x. cleared_of x any (is_type t r) (is_at o r) (is_type 6 r) (is_type 2 r)) (name_respects u.name q r h)
      ∙ ap (λ x. cleared_of (is_at u.name q) any x (is_at o r) (is_type 6 r) (is_type 2 r)) (type_respects t q r h)
      ∙ ap (λ x. cleared_of (is_at u.name q) any (is_type t q) x (is_type 6 r) (is_type 2 r)) (name_respects o q r h)
      ∙ ap (λ x. cleared_of (is_at u.name q) any (is_type t q) (is_at o q) x (is_type 2 r)) (type_respects 6 q r h)
      ∙ ap (λ x. cleared_of (is_at u.name q) any (is_type t q) (is_at o q) (is_type 6 q) x) (type_respects 2 q r h)

  goes_of : Bool → Bool → Bool → Bool → Bool → Bool → Bool → Bool → Bool → Bool
  goes_of k a s i m k2 cl b d = cond k (a && cond s i m) (cond k2 cl (not b && d))

  pub goes_respects : (o : DomainName) (u : Resource) (a b : Bool) → Respects (is_deleted_when o u a b)
  unfolding goes_of
  goes_respects o u a b q r h =
      let k = u.dns_class == 1 in
      let k2 = u.dns_class == 255 in
      let s = replaces_rrset u in
      ap (λ i. goes_of k a s i (same_record u r) k2 (is_in_deleted_rrsets o u r) b (same_record (in_class u) r)) (rrset_respects u q r h)
      ∙ ap (λ m. goes_of k a s (in_rrset u q) m k2 (is_in_deleted_rrsets o u r) b (same_record (in_class u) r)) (same_respects u q r h)
      ∙ ap (λ l. goes_of k a s (in_rrset u q) (same_record u q) k2 l b (same_record (in_class u) r)) (cleared_respects o u q r h)
      ∙ ap (λ d. goes_of k a s (in_rrset u q) (same_record u q) k2 (is_in_deleted_rrsets o u q) b d) (same_respects (in_class u) q r h)

  -- ---- a turn, and several

  -- a TTL that is given to what is there
  abbrev given_ttl : ℕ → Option ℕ → Option ℕ
  given_ttl t None = None
  given_ttl t (Some u) = Some t

  one_seen : (q x : Resource) (t : ℕ) (more : Option ℕ) (b : Bool)
      → cond (same_record q (cond b (record x { ttl = t }) x)) (Some (cond b (record x { ttl = t }) x).ttl) more ≡ cond (same_record q x) (Some (cond b t x.ttl)) more
  one_seen q x t more true = refl
  one_seen q x t more false = refl

  one_step : (t u : ℕ) (more rest : Option ℕ) (m bx bq : Bool) → (m ≡ true → bx ≡ bq) → more ≡ cond bq (given_ttl t rest) rest
      → cond m (Some (cond bx t u)) more ≡ cond bq (given_ttl t (cond m (Some u) rest)) (cond m (Some u) rest)
  one_step t u more rest true true true h e = refl
  one_step t u more rest true false false h e = refl
  one_step t u more rest true true false h e = absurd (let f : true ≡ false = h refl in cc)
  one_step t u more rest true false true h e = absurd (let f : false ≡ true = h refl in cc)
  one_step t u more rest false bx bq h e = e

  none_given : (t : ℕ) (b : Bool) → ◌≡◌ {A = Option ℕ} None (cond b (given_ttl t None) None)
  none_given t true = refl
  none_given t false = refl

  pub ttl_one : (r : Resource) (z : Records) (q : Resource) → ttl_at (one_ttl r z) q ≡ cond (in_rrset r q) (given_ttl r.ttl (ttl_at z q)) (ttl_at z q)
  ttl_one r [] q = none_given r.ttl (in_rrset r q)
  ttl_one r (x ∷ z) q =
      one_seen q x r.ttl (ttl_at (one_ttl r z) q) (in_rrset r x)
      ∙ one_step r.ttl x.ttl (ttl_at (one_ttl r z) q) (ttl_at z q) (same_record q x) (in_rrset r x) (in_rrset r q) (λ e. rrset_respects r q x e) (ttl_one r z q)

  settled_same : (c : Bool) (r : Resource) (z w : Records) → SameZone z w → SameZone (cond c (one_ttl r z) z) (cond c (one_ttl r w) w)
  settled_same true r z w h q = ttl_one r z q ∙ ap (λ x. cond (in_rrset r q) (given_ttl r.ttl x) x) (h q) ∙ sym (ttl_one r w q)
  settled_same false r z w h q = h q

  kept_same : (o : DomainName) (z w : Records) (r : Resource) (a b : Bool) → SameZone z w
      → SameZone (filter (λ q. not (is_deleted_when o r a b q)) z ++ cond a (r ∷ []) []) (filter (λ q. not (is_deleted_when o r a b q)) w ++ cond a (r ∷ []) [])
  kept_same o z w r a b h q =
      let p : Resource → Bool = λ q. not (is_deleted_when o r a b q) in
      let s : Respects p = not_respects (is_deleted_when o r a b) (goes_respects o r a b) in
      let last : Records = cond a (r ∷ []) [] in
      ttl_append (filter p z) last q
      ∙ ap (λ x. option_or x (ttl_at last q)) (ttl_filter p s z q ∙ ap (λ x. cond (p q) x None) (h q) ∙ sym (ttl_filter p s w q))
      ∙ sym (ttl_append (filter p w) last q)

  turn_when_same : (f : Bool) (o : DomainName) (z w : Records) (r : Resource) (a b : Bool) → SameZone z w → SameZone (after_record_when f o z r a b) (after_record_when f o w r a b)
  turn_when_same f o z w r a b h = settled_same (f && a) r _ _ (kept_same o z w r a b h)

  counted_same : (f : Bool) (o : DomainName) (z w : Records) (r : Resource) → SameZone z w → SameZone (after_counted f o z r) (after_counted f o w r)
  counted_same f o z w r h q =
      turn_when_same f o z w r (is_added f z r) (is_spared f o z r) h q
      ∙ ap (λ a. ttl_at (after_record_when f o w r a (is_spared f o z r)) q) (comes_same f z w r h)
      ∙ ap (λ b. ttl_at (after_record_when f o w r (is_added f w r) b) q) (spared_same f o z w r h)

  turn_same : (f : Bool) (o : DomainName) (z w : Records) (r : Resource) → SameZone z w → SameZone (after_record f o z r) (after_record f o w r)
  unfolding after_record
  turn_same f o z w r h = counted_same f o z w (counted f r) h

  pub fold_same : (f : Bool) (o : DomainName) (rs z w : Records) → SameZone z w → SameZone (after_updates f o z rs) (after_updates f o w rs)
  fold_same f o [] z w h = h
  fold_same f o (r ∷ rs) z w h = fold_same f o rs (after_record f o z r) (after_record f o w r) (turn_same f o z w r h)
