-- An NS stays at the apex.
use Rattle.std.proofs.Common.{◌≡◌, ◌⊎◌, inl, inr, ◌∙◌, sym, refl, ℕ, Bool, true, false, cond, not, ◌&&◌, ◌||◌, ◌++◌, List, [], ◌∷◌, filter, arith, nat_eq}
use Rattle.std.specs.List.{list_any}
use Rattle.std.specs.Cmp.{eq_by_cmp_equiv, IsEquivalence}
use Rattle.std.proofs.lemmas.Bool.Decides.{nat_tests}
use Rattle.wire_names.specs.rr.domain.DomainName.{DomainName}
use Rattle.wire_names.specs.rr.domain.NameOrder.{name_cmp_total, name_eq}
use Rattle.wire_messages.specs.rr.RecordData.{type_of}
use Rattle.wire_messages.specs.declared.rr.rdata.RData.{RData}
use Rattle.wire_messages.specs.declared.rr.record.Record.{Record}
use Rattle.hickory_base.specs.zone_store.ZoneRecords.{is_at}
use Rattle.hickory_store.specs.updates.Changes.{is_added, is_deleted_when, in_class, in_rrset, is_in_deleted_rrsets, is_spared, is_type, replaces_rrset, after_counted, after_record, counted}
use Rattle.hickory_store.specs.updates.Identity.{same_data, same_record}
use Rattle.hickory_store.specs.updates.UpdateLaws.{NsStays, is_apex_ns}
use Rattle.hickory_store.proofs.lemmas.updates.OneTtl.{any_settled}

abbrev pub Resource : Type 0
Resource = Record RData

abbrev pub Records : Type 0
Records = List Resource

pub and_left : (a b : Bool) → (a && b) ≡ true → a ≡ true
and_left true b h = refl
and_left false b h = h

pub and_right : (a b : Bool) → (a && b) ≡ true → b ≡ true
and_right true b h = h
and_right false b h = cc

pub and_both : (a b : Bool) → a ≡ true → b ≡ true → (a && b) ≡ true
and_both a b p q = cc

pub not_true : (a : Bool) → not a ≡ true → a ≡ false
not_true true h = cc
not_true false h = refl

pub false_or : (a : Bool) → (a ≡ true → ⊥) → a ≡ false
false_or true h = absurd (h refl)
false_or false h = refl

pub nat_eq_is : (m n : ℕ) → nat_eq m n ≡ true → m ≡ n
nat_eq_is m n h = grind (arith, nat_tests)

pub nat_eq_so : (m n : ℕ) → m ≡ n → nat_eq m n ≡ true
nat_eq_so m n h = grind (arith, nat_tests)

pub names : IsEquivalence name_eq
names = eq_by_cmp_equiv name_cmp_total

-- n ~ q and r ~ q, so n ~ r
pub name_eq_via : (n r q : DomainName) → name_eq n q ≡ true → name_eq r q ≡ true → name_eq n r ≡ true
name_eq_via n r q h k = names.symm n r ∙ names.congr r q n k ∙ names.symm q n ∙ h

or_of_left : (a b : Bool) → a ≡ true → (a || b) ≡ true
or_of_left true b h = refl
or_of_left false b h = cc

or_of_right : (a b : Bool) → b ≡ true → (a || b) ≡ true
or_of_right true b h = refl
or_of_right false b h = h

any_kept_step : {X : Type 0} (q : X → Bool) (x : X) (more : List X) (pb pm kb : Bool) → (pb ≡ true → (q x ≡ true) × (kb ≡ true)) → (pb || pm) ≡ true → (pm ≡ true → list_any q more ≡ true) → list_any q (cond kb (x ∷ more) more) ≡ true
any_kept_step q x more true pm true h e m = or_of_left (q x) (list_any q more) (h refl).0
any_kept_step q x more true pm false h e m = absurd (let k : false ≡ true = (h refl).1 in cc)
any_kept_step q x more false pm true h e m = or_of_right (q x) (list_any q more) (m e)
any_kept_step q x more false pm false h e m = m e

pub any_kept : {X : Type 0} (p q keep : X → Bool) (xs : List X) → ((x : X) → p x ≡ true → (q x ≡ true) × (keep x ≡ true)) → list_any p xs ≡ true → list_any q (filter keep xs) ≡ true
any_kept p q keep [] h e = e
any_kept p q keep (x ∷ xs) h e = any_kept_step q x (filter keep xs) (p x) (list_any p xs) (keep x) (h x) e (any_kept p q keep xs h)

pub any_front : {X : Type 0} (p : X → Bool) (xs ys : List X) → list_any p xs ≡ true → list_any p (xs ++ ys) ≡ true
any_front p [] ys h = cc
any_front p (x ∷ xs) ys h = front_step (p x) (list_any p xs) (list_any p (xs ++ ys)) h (any_front p xs ys)
  where
    front_step : (a b d : Bool) → (a || b) ≡ true → (b ≡ true → d ≡ true) → (a || d) ≡ true
    front_step true b d h e = refl
    front_step false b d h e = e h

pub any_last : {X : Type 0} (p : X → Bool) (xs : List X) (y : X) → p y ≡ true → list_any p (xs ++ y ∷ []) ≡ true
any_last p [] y h = or_of_left (p y) false h
any_last p (x ∷ xs) y h = or_of_right (p x) (list_any p (xs ++ y ∷ [])) (any_last p xs y h)

-- why a record goes
pub case_goes : (k a s i m k2 cl sp d : Bool) → cond k (a && cond s i m) (cond k2 cl (not sp && d)) ≡ true
    → ((a ≡ true) × (s ≡ true) × (i ≡ true)) ⊎ (((a ≡ true) × (m ≡ true)) ⊎ ((cl ≡ true) ⊎ ((sp ≡ false) × (d ≡ true))))
case_goes true true true i m k2 cl sp d h = inl (refl, refl, h)
case_goes true true false i m k2 cl sp d h = inr (inl (refl, h))
case_goes true false s i m k2 cl sp d h = absurd (cc)
case_goes false a s i m true cl sp d h = inr (inr (inl h))
case_goes false a s i m false cl true d h = absurd (cc)
case_goes false a s i m false cl false d h = inr (inr (inr (refl, h)))

-- an NS isn't replaced by a set of CNAME or SOA
two_apart : (t u : ℕ) → nat_eq u 2 ≡ true → nat_eq u t ≡ true → (nat_eq t 5 || nat_eq t 6) ≡ true → ⊥
two_apart t u h k e = grind (arith, nat_tests)

cleared_apart : (a b d f g : Bool) → a ≡ true → g ≡ true → (b && (d && not (a && (f || g)))) ≡ true → ⊥
cleared_apart true b d f true h k e = bad b d f e
  where
    bad : (b d f : Bool) → (b && (d && not (f || true))) ≡ true → ⊥
    bad true true true h = cc
    bad true true false h = cc
    bad true false f h = cc
    bad false d f h = cc
cleared_apart false b d f g h k e = cc
cleared_apart true b d f false h k e = cc

pub not_so : (a : Bool) → a ≡ false → not a ≡ true
not_so true h = cc
not_so false h = refl

-- data that are the same are of one type
abbrev pub OfOneType : Type 0
OfOneType = (d e : RData) → same_data d e ≡ true → type_of d ≡ type_of e

module _ (same_type : OfOneType) where
  -- an NS at the origin goes only for an NS at the origin
  pub same_ns : (o : DomainName) (r q : Resource) → is_apex_ns o q ≡ true → name_eq r.name q.name ≡ true → same_data r.rdata q.rdata ≡ true → is_apex_ns o r ≡ true
  same_ns o r q h k e =
      and_both _ _ (name_eq_via o r.name q.name (and_left _ _ h) k)
      (nat_eq_so (type_of r.rdata) 2 (same_type r.rdata q.rdata e ∙ nat_eq_is (type_of q.rdata) 2 (and_right (name_eq o q.name) _ h)))

  goes_ns : (o : DomainName) (r q : Resource) (a b : Bool) → is_apex_ns o q ≡ true → is_deleted_when o r a b q ≡ true
      → ((a ≡ true) × (is_apex_ns o r ≡ true)) ⊎ ((b ≡ false) × (is_apex_ns o r ≡ true) × (same_record (in_class r) q ≡ true))
  goes_ns o r q a b h g =
      elim (case_goes (nat_eq r.dns_class 1) a (replaces_rrset r) (in_rrset r q) (same_record r q) (nat_eq r.dns_class 255) (is_in_deleted_rrsets o r q) b (same_record (in_class r) q) g) [
        | inl w ↦ absurd (two_apart (type_of r.rdata) (type_of q.rdata) (and_right (name_eq o q.name) _ h) (and_right (name_eq r.name q.name) _ w.2) w.1)
        | inr v ↦ elim v [
          | inl w ↦ inl (w.0, same_ns o r q h (and_left _ _ w.1) (and_right (nat_eq r.dns_class q.dns_class) _ (and_right (name_eq r.name q.name) _ w.1)))
          | inr u ↦ elim u [
            | inl w ↦ absurd (cleared_apart (name_eq o q.name) (name_eq r.name q.name) (is_type 255 r || is_type (type_of r.rdata) q) (is_type 6 q) (is_type 2 q) (and_left _ _ h) (and_right (name_eq o q.name) _ h) w)
            | inr w ↦ inr (w.0, same_ns o r q h (and_left _ _ w.1) (and_right (nat_eq 1 q.dns_class) _ (and_right (name_eq r.name q.name) _ w.1)), w.1)
          ]
        ]
      ]

  -- where no NS at the origin goes, one stays
  stays_all : (o : DomainName) (z : Records) (r : Resource) (a b : Bool) → ((q : Resource) → is_apex_ns o q ≡ true → is_deleted_when o r a b q ≡ true → ⊥) → list_any (is_apex_ns o) z ≡ true → list_any (is_apex_ns o) (filter (λ q. not (is_deleted_when o r a b q)) z) ≡ true
  stays_all o z r a b h e = any_kept (is_apex_ns o) (is_apex_ns o) (λ q. not (is_deleted_when o r a b q)) z (λ q n. (n, not_so _ (false_or _ (h q n)))) e

  -- not is_spared: another NS of the name is there
  other_in : (s t x : Bool) → t ≡ true → (s || (t && not x)) ≡ false → x ≡ true
  other_in true t x h e = cc
  other_in false true true h e = refl
  other_in false true false h e = cc
  other_in false false x h e = cc

  other_ns : (f at s t x : Bool) → at ≡ true → t ≡ true → ((f || at) && (s || (t && not x))) ≡ false → x ≡ true
  other_ns true at s t x k h e = other_in s t x h e
  other_ns false true s t x k h e = other_in s t x h e
  other_ns false false s t x k h e = cc

  other_stays : (o : DomainName) (z : Records) (r : Resource) (b : Bool) → is_apex_ns o r ≡ true → list_any (λ q. in_rrset r q && not (same_record (in_class r) q)) z ≡ true → list_any (is_apex_ns o) (filter (λ q. not (is_deleted_when o r false b q)) z) ≡ true
  other_stays o z r b n e =
      any_kept (λ q. in_rrset r q && not (same_record (in_class r) q)) (is_apex_ns o) (λ q. not (is_deleted_when o r false b q)) z
      (λ q h.
      let s : in_rrset r q ≡ true = and_left _ _ h in
      let d : same_record (in_class r) q ≡ false = not_true _ (and_right (in_rrset r q) _ h) in
      let m : name_eq o q.name ≡ true = name_eq_via o q.name r.name (and_left _ _ n) (names.symm q.name r.name ∙ and_left _ _ s) in
      let t : nat_eq (type_of q.rdata) 2 ≡ true = nat_eq_so _ _ (nat_eq_is _ _ (and_right (name_eq r.name q.name) _ s) ∙ nat_eq_is _ _ (and_right (name_eq o r.name) _ n)) in
      let k : is_apex_ns o q ≡ true = and_both _ _ m t in
      (k, not_so _ (false_or _ (λ g. elim (goes_ns o r q false b k g) [ inl w ↦ cc (w.0) | inr w ↦ cc (w.2, d) ]))))
      e

  turn_cases : (f : Bool) (o : DomainName) (z : Records) (r : Resource) (n a b : Bool) → n ≡ is_apex_ns o r → a ≡ is_added f z r → b ≡ is_spared f o z r → list_any (is_apex_ns o) z ≡ true
      → list_any (is_apex_ns o) (filter (λ q. not (is_deleted_when o r a b q)) z ++ cond a (r ∷ []) []) ≡ true
  turn_cases f o z r false a b p s t e =
      any_front (is_apex_ns o) _ (cond a (r ∷ []) []) (stays_all o z r a b (λ q k g. elim (goes_ns o r q a b k g) [ inl w ↦ cc (w.1, p) | inr w ↦ cc (w.1, p) ]) e)
  turn_cases f o z r true true b p s t e = any_last (is_apex_ns o) (filter (λ q. not (is_deleted_when o r true b q)) z) r (sym p)
  turn_cases f o z r true false true p s t e =
      any_front (is_apex_ns o) _ [] (stays_all o z r false true (λ q k g. elim (goes_ns o r q false true k g) [ inl w ↦ cc (w.0) | inr w ↦ cc (w.0) ]) e)
  turn_cases f o z r true false false p s t e =
      any_front (is_apex_ns o) _ [] (other_stays o z r false (sym p) (other_ns (not f) (is_at o r) (is_type 6 r) (is_type 2 r) _ (and_left _ _ (sym p)) (and_right (name_eq o r.name) _ (sym p)) (sym t)))

  ns_counted : (f : Bool) (o : DomainName) (z : Records) (r : Resource) → list_any (is_apex_ns o) z ≡ true → list_any (is_apex_ns o) (after_counted f o z r) ≡ true
  ns_counted f o z r e =
      any_settled (is_apex_ns o) (λ q ttl. refl) (f && is_added f z r) r _
      ∙ turn_cases f o z r (is_apex_ns o r) (is_added f z r) (is_spared f o z r) refl refl refl e

  pub ns_turn : (f : Bool) (o : DomainName) (z : Records) (r : Resource) → list_any (is_apex_ns o) z ≡ true → list_any (is_apex_ns o) (after_record f o z r) ≡ true
  unfolding after_record
  ns_turn f o z r e = ns_counted f o z (counted f r) e

  pub ns_stays : NsStays
  ns_stays f o [] z e = e
  ns_stays f o (r ∷ rs) z e = ns_stays f o rs (after_record f o z r) (ns_turn f o z r e)
