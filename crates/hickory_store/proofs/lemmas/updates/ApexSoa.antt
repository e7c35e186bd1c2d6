-- The apex keeps one SOA.
use Rattle.std.proofs.Common.{◌≡◌, ◌⊎◌, inl, inr, ◌∙◌, ap, sym, refl, ℕ, ◌+◌, Bool, true, false, cond, not, ◌&&◌, ◌||◌, ◌++◌, List, [], ◌∷◌, filter, arith, nat_eq}
use Rattle.std.proofs.lemmas.List.{append-nil}
use Rattle.wire_names.specs.rr.domain.DomainName.{DomainName}
use Rattle.wire_names.specs.rr.domain.NameOrder.{name_eq}
use Rattle.wire_messages.specs.rr.RecordData.{type_of}
use Rattle.hickory_base.specs.zone_store.ZoneRecords.{is_at}
use Rattle.hickory_store.specs.updates.Changes.{is_added, is_deleted_when, in_class, in_rrset, is_in_deleted_rrsets, is_spared, is_type, replaces_rrset, after_counted, after_record, counted}
use Rattle.hickory_store.specs.updates.Identity.{same_data, same_record}
use Rattle.hickory_store.specs.updates.UpdateAnswers.{is_apex_soa}
use Rattle.hickory_store.specs.updates.UpdateLaws.{SoaStays, how_many}
use Rattle.hickory_store.proofs.lemmas.updates.ApexNs.{OfOneType, Records, Resource, and_both, and_left, and_right, case_goes, false_or, name_eq_via, names, nat_eq_is, nat_eq_so, not_so}
use Rattle.hickory_store.proofs.lemmas.updates.OneTtl.{many_settled}

kept_step : {X : Type 0} (p : X → Bool) (x : X) (more : List X) (k : Bool) (n : ℕ) → (p x ≡ true → k ≡ true) → how_many p more ≡ n → how_many p (cond k (x ∷ more) more) ≡ cond (p x) 1 0 + n
kept_step p x more true n h e = ap (λ m. cond (p x) 1 0 + m) e
kept_step p x more false n h e = none (p x) h e
  where
    none : (b : Bool) → (b ≡ true → false ≡ true) → how_many p more ≡ n → how_many p more ≡ cond b 1 0 + n
    none true h e = absurd (let f : false ≡ true = h refl in cc)
    none false h e = omega (arith, e)

count_kept : {X : Type 0} (p keep : X → Bool) → ((x : X) → p x ≡ true → keep x ≡ true) → (xs : List X) → how_many p (filter keep xs) ≡ how_many p xs
count_kept p keep h [] = refl
count_kept p keep h (x ∷ xs) = kept_step p x (filter keep xs) (keep x) (how_many p xs) (h x) (count_kept p keep h xs)

gone_step : {X : Type 0} (p : X → Bool) (x : X) (more : List X) (k b : Bool) → p x ≡ b → (b ≡ true → k ≡ false) → how_many p more ≡ 0 → how_many p (cond k (x ∷ more) more) ≡ 0
gone_step p x more true true e h n = absurd (let f : true ≡ false = h refl in cc)
gone_step p x more true false e h n = ap (λ v. cond v 1 0 + how_many p more) e ∙ omega (arith, n)
gone_step p x more false b e h n = n

count_gone : {X : Type 0} (p keep : X → Bool) → ((x : X) → p x ≡ true → keep x ≡ false) → (xs : List X) → how_many p (filter keep xs) ≡ 0
count_gone p keep h [] = refl
count_gone p keep h (x ∷ xs) = gone_step p x (filter keep xs) (keep x) (p x) refl (h x) (count_gone p keep h xs)

count_last : {X : Type 0} (p : X → Bool) (xs : List X) (y : X) → how_many p (xs ++ y ∷ []) ≡ how_many p xs + cond (p y) 1 0
count_last p [] y = omega arith
count_last p (x ∷ xs) y = ap (λ n. cond (p x) 1 0 + n) (count_last p xs y) ∙ omega arith

cleared_apart : (a b d f g : Bool) → a ≡ true → f ≡ true → (b && (d && not (a && (f || g)))) ≡ true → ⊥
cleared_apart true true true true g h k e = cc
cleared_apart true true false true g h k e = cc
cleared_apart true false d true g h k e = cc
cleared_apart false b d f g h k e = cc
cleared_apart true b d false g h k e = cc

module _ (same_type : OfOneType) where
  six_of : (r q : Resource) → is_type 6 q ≡ true → same_data r.rdata q.rdata ≡ true → is_type 6 r ≡ true
  six_of r q h e = nat_eq_so (type_of r.rdata) 6 (same_type r.rdata q.rdata e ∙ nat_eq_is (type_of q.rdata) 6 h)

  pub goes_soa : (o : DomainName) (r q : Resource) (a b : Bool) → is_apex_soa o q ≡ true → is_deleted_when o r a b q ≡ true
      → ((a ≡ true) × (is_apex_soa o r ≡ true)) ⊎ ((b ≡ false) × (is_apex_soa o r ≡ true))
  goes_soa o r q a b h g =
      elim (case_goes (nat_eq r.dns_class 1) a (replaces_rrset r) (in_rrset r q) (same_record r q) (nat_eq r.dns_class 255) (is_in_deleted_rrsets o r q) b (same_record (in_class r) q) g) [
        | inl w ↦ inl (
          w.0,
          and_both _ _ (name_eq_via o r.name q.name (and_left _ _ h) (and_left _ _ w.2))
              (nat_eq_so (type_of r.rdata) 6 (sym (nat_eq_is (type_of q.rdata) (type_of r.rdata) (and_right (name_eq r.name q.name) _ w.2)) ∙ nat_eq_is (type_of q.rdata) 6 (and_right (name_eq o q.name) _ h))),
        )
        | inr v ↦ elim v [
          | inl w ↦ inl (
            w.0,
            and_both _ _ (name_eq_via o r.name q.name (and_left _ _ h) (and_left _ _ w.1))
                (six_of r q (and_right (name_eq o q.name) _ h) (and_right (nat_eq r.dns_class q.dns_class) _ (and_right (name_eq r.name q.name) _ w.1))),
          )
          | inr u ↦ elim u [
            | inl w ↦ absurd (cleared_apart (name_eq o q.name) (name_eq r.name q.name) (is_type 255 r || is_type (type_of r.rdata) q) (is_type 6 q) (is_type 2 q) (and_left _ _ h) (and_right (name_eq o q.name) _ h) w)
            | inr w ↦ inr (
              w.0,
              and_both _ _ (name_eq_via o r.name q.name (and_left _ _ h) (and_left _ _ w.1))
                  (six_of r q (and_right (name_eq o q.name) _ h) (and_right (nat_eq 1 q.dns_class) _ (and_right (name_eq r.name q.name) _ w.1))),
            )
          ]
        ]
      ]

  -- an SOA of the apex is not deleted
  pub six_spared : (f : Bool) (o : DomainName) (z : Records) (r : Resource) → is_apex_soa o r ≡ true → is_spared f o z r ≡ false → ⊥
  six_spared f o z r h e = no (not f) (is_at o r) (is_type 6 r) _ (and_left _ _ h) (and_right (is_at o r) _ h) e
    where
      no : (g at t x : Bool) → at ≡ true → t ≡ true → ((g || at) && (t || x)) ≡ false → ⊥
      no true at true x k h e = cc
      no true at false x k h e = cc
      no false true true x k h e = cc
      no false true false x k h e = cc
      no false false t x k h e = cc

  -- the SOA of the origin comes, so each SOA there goes
  all_go : (k s i m k2 cl b d : Bool) → k ≡ true → s ≡ true → i ≡ true → cond k (true && cond s i m) (cond k2 cl (not b && d)) ≡ true
  all_go true true true m k2 cl b d h e f = refl
  all_go true true false m k2 cl b d h e f = f
  all_go true false i m k2 cl b d h e f = cc
  all_go false s i m k2 cl b d h e f = cc

  or_second : (a b : Bool) → b ≡ true → (a || b) ≡ true
  or_second true b h = refl
  or_second false b h = h

  pub soa_goes : (o : DomainName) (r q : Resource) (b : Bool) → is_apex_soa o r ≡ true → nat_eq r.dns_class 1 ≡ true → is_apex_soa o q ≡ true → is_deleted_when o r true b q ≡ true
  soa_goes o r q b n k h =
      all_go (nat_eq r.dns_class 1) (replaces_rrset r) (in_rrset r q) (same_record r q) (nat_eq r.dns_class 255) (is_in_deleted_rrsets o r q) b (same_record (in_class r) q) k
      (or_second (is_type 5 r) (is_type 6 r) (and_right (name_eq o r.name) _ n))
      (and_both _ _ (name_eq_via r.name q.name o (names.symm r.name o ∙ and_left _ _ n) (names.symm q.name o ∙ and_left _ _ h))
      (nat_eq_so (type_of q.rdata) (type_of r.rdata) (nat_eq_is (type_of q.rdata) 6 (and_right (name_eq o q.name) _ h) ∙ sym (nat_eq_is (type_of r.rdata) 6 (and_right (name_eq o r.name) _ n)))))

  stay : (f : Bool) (o : DomainName) (z : Records) (r : Resource) (a b : Bool) → b ≡ is_spared f o z r → ((a ≡ true) × (is_apex_soa o r ≡ true) → ⊥) → how_many (is_apex_soa o) (filter (λ q. not (is_deleted_when o r a b q)) z) ≡ how_many (is_apex_soa o) z
  stay f o z r a b t never =
      count_kept (is_apex_soa o) (λ q. not (is_deleted_when o r a b q))
      (λ q h. not_so _ (false_or _ (λ g. elim (goes_soa o r q a b h g) [ inl w ↦ never w | inr w ↦ six_spared f o z r w.1 (sym t ∙ w.0) ]))) z

  tail_none : (p : Resource → Bool) (xs : Records) (r : Resource) (a : Bool) → p r ≡ false → how_many p (xs ++ cond a (r ∷ []) []) ≡ how_many p xs
  tail_none p xs r true n = count_last p xs r ∙ ap (λ v. how_many p xs + cond v 1 0) n ∙ omega arith
  tail_none p xs r false n = ap (how_many p) (append-nil xs)

  turn_cases : (f : Bool) (o : DomainName) (z : Records) (r : Resource) (n a b : Bool) → is_apex_soa o r ≡ n → a ≡ is_added f z r → b ≡ is_spared f o z r → how_many (is_apex_soa o) z ≡ 1
      → how_many (is_apex_soa o) (filter (λ q. not (is_deleted_when o r a b q)) z ++ cond a (r ∷ []) []) ≡ 1
  turn_cases f o z r false a b p s t e = tail_none (is_apex_soa o) (filter (λ q. not (is_deleted_when o r a b q)) z) r a p ∙ stay f o z r a b t (λ w. cc (w.1, p)) ∙ e
  turn_cases f o z r true true b p s t e =
      count_last (is_apex_soa o) (filter (λ q. not (is_deleted_when o r true b q)) z) r
      ∙ ap (λ n. n + cond (is_apex_soa o r) 1 0) (count_gone (is_apex_soa o) (λ q. not (is_deleted_when o r true b q)) (λ q h. ap not (soa_goes o r q b p (and_left _ _ (sym s)) h)) z)
      ∙ ap (λ v. 0 + cond v 1 0) p ∙ omega arith
  turn_cases f o z r true false b p s t e = ap (how_many (is_apex_soa o)) (append-nil (filter (λ q. not (is_deleted_when o r false b q)) z)) ∙ stay f o z r false b t (λ w. cc (w.0)) ∙ e

  soa_counted : (f : Bool) (o : DomainName) (z : Records) (r : Resource) → how_many (is_apex_soa o) z ≡ 1 → how_many (is_apex_soa o) (after_counted f o z r) ≡ 1
  soa_counted f o z r e =
      many_settled (is_apex_soa o) (λ q ttl. refl) (f && is_added f z r) r _
      ∙ turn_cases f o z r (is_apex_soa o r) (is_added f z r) (is_spared f o z r) refl refl refl e

  soa_turn : (f : Bool) (o : DomainName) (z : Records) (r : Resource) → how_many (is_apex_soa o) z ≡ 1 → how_many (is_apex_soa o) (after_record f o z r) ≡ 1
  unfolding after_record
  soa_turn f o z r e = soa_counted f o z (counted f r) e

  pub soa_stays : SoaStays
  soa_stays f o [] z e = e
  soa_stays f o (r ∷ rs) z e = soa_stays f o rs (after_record f o z r) (soa_turn f o z r e)
