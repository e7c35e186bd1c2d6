-- Updates are done again by their records and the SOA that they left.
use Rattle.std.proofs.Common.{◌≡◌, inl, inr, ◌∙◌, ap, sym, subst, refl, ℕ, Bool, true, false, cond, not, ◌&&◌, ◌||◌, ◌++◌, [], ◌∷◌, filter, map, Option, Some, None, arith, nat_eq}
use Rattle.std.specs.Prelude.{◌==◌}
use Rattle.std.specs.List.{list_any}
use Rattle.std.specs.Option.{is_some, option_or}
use Rattle.std.proofs.lemmas.Bool.Decides.{nat_tests}
use Rattle.std.proofs.lemmas.List.Folds.{list_any-append}
use Rattle.wire_names.specs.rr.domain.DomainName.{DomainName}
use Rattle.wire_names.specs.rr.domain.NameOrder.{name_eq}
use Rattle.wire_messages.specs.rr.RecordData.{type_of}
use Rattle.wire_messages.specs.rr.RecordSameness.{lower_data}
use Rattle.wire_messages.specs.declared.rr.rdata.RData.{RData}
use Rattle.wire_messages.specs.declared.rr.rdata.RData.TheVariants as rdata
use Rattle.hickory_base.specs.zone_store.ZoneRecords.{is_at}
use Rattle.hickory_base.specs.zone_store.ZoneSets.{IsSoaData}
use Rattle.hickory_store.specs.updates.Changes.{is_added, after_updates, is_deleted_when, has_ttl, in_rrset, is_in_deleted_rrsets, is_ignored, is_newer, is_spared, adds_nothing_new, is_type, replaces_rrset, after_record}
use Rattle.hickory_store.specs.updates.Identity.{SameZone, same_record, ttl_at}
use Rattle.hickory_base.specs.zone_store.Serials.{is_greater}
use Rattle.hickory_store.specs.updates.Serials.{next_serial}
use Rattle.hickory_store.specs.updates.UpdateAnswers.{incremented, is_apex_soa, next_data}
use Rattle.hickory_store.specs.updates.UpdateLaws.{IsOneSoa, has_cname}
use Rattle.hickory_store.proofs.lemmas.updates.ApexNs.{OfOneType, Records, Resource, and_both, and_left, and_right, false_or, name_eq_via, names, nat_eq_is, nat_eq_so, not_so, not_true}
use Rattle.hickory_store.proofs.lemmas.updates.ApexSoa.{soa_goes}
use Rattle.hickory_store.proofs.lemmas.updates.CnameAlone.{named_alike, none_kept, or_none, other_free}
use Rattle.hickory_store.proofs.lemmas.updates.KeptAtApex.{cname_next, cname_respects, other_respects}
use Rattle.hickory_store.proofs.lemmas.updates.OneSoa.{After, next_soa, one_next, one_soa_same, one_turn, only_soa, soa_respects, tail_none}
use Rattle.hickory_store.proofs.lemmas.updates.SameZones.{Identity, Respects, any_same, both_respect, found, goes_respects, not_respects, passes, same_respects, same_turned, same_via, newer_respects, some_ttl, ttl_append, ttl_filter, ttl_same, rrset_respects}
use Rattle.hickory_store.proofs.lemmas.updates.SerialSteps.{apex_next}

-- ---- serials

greater_next : (n : ℕ) → is_greater (next_serial n) n ≡ true
greater_next n = grind (arith, nat_tests)

greater_self : (n : ℕ) → is_greater n n ≡ false
greater_self n = grind (arith, nat_tests)

abbrev pub IsSoa : RData → Type 0
IsSoa (rdata.SOA s) = Unit {0}
IsSoa other = ⊥

pub soa_data : (d : RData) → IsSoaData d → IsSoa d
soa_data (rdata.SOA s) h = tt
soa_data _ h = absurd h

next_is_soa : (d : RData) → IsSoa d → IsSoa (next_data d)
next_is_soa (rdata.SOA s) h = tt
next_is_soa _ h = absurd h

newer_is_soa : (d e : RData) → is_newer d e ≡ true → IsSoa d
newer_is_soa (rdata.SOA s) e h = tt
newer_is_soa _ e h = absurd (cc)

newer_next : (d : RData) → IsSoa d → is_newer (next_data d) d ≡ true
newer_next (rdata.SOA s) h = greater_next s.serial
newer_next _ h = absurd h

newer_self : (d : RData) → IsSoa d → is_newer d d ≡ false
newer_self (rdata.SOA s) h = greater_self s.serial
newer_self _ h = absurd h

newer_lower_first : (d e : RData) → is_newer (lower_data d) e ≡ is_newer d e
newer_lower_first (rdata.SOA s) (rdata.A x) = refl
newer_lower_first (rdata.SOA s) (rdata.AAAA x) = refl
newer_lower_first (rdata.SOA s) (rdata.NS x) = refl
newer_lower_first (rdata.SOA s) (rdata.CNAME x) = refl
newer_lower_first (rdata.SOA s) (rdata.PTR x) = refl
newer_lower_first (rdata.SOA s) (rdata.MX x) = refl
newer_lower_first (rdata.SOA s) (rdata.SOA x) = refl
newer_lower_first (rdata.SOA s) (rdata.TXT x) = refl
newer_lower_first (rdata.SOA s) (rdata.OPT x) = refl
newer_lower_first (rdata.SOA s) (rdata.TSIG x) = refl
newer_lower_first (rdata.SOA s) (rdata.NULL x) = refl
newer_lower_first (rdata.SOA s) (rdata.Update0 x) = refl
newer_lower_first (rdata.SOA s) (rdata.Unknown x y) = refl
newer_lower_first _ e = refl

-- ---- lists

pub fold_both : (o : DomainName) (xs ys z : Records) → after_updates false o z (xs ++ ys) ≡ after_updates false o (after_updates false o z xs) ys
fold_both o [] ys z = refl
fold_both o (x ∷ xs) ys z = fold_both o xs ys (after_record false o z x)

six_apart : (t : ℕ) → nat_eq t 6 ≡ true → nat_eq t 5 ≡ false
six_apart t h = grind (arith, nat_tests)

not_ignored : (five six a b c d : Bool) → five ≡ false → b ≡ false → c ≡ true → d ≡ false → cond five a (b || (six && (not c || d))) ≡ false
not_ignored true six a b c d p q r s = cc
not_ignored false six a true c d p q r s = cc
not_ignored false six a false false d p q r s = cc
not_ignored false true a false true d p q r s = s
not_ignored false false a false true d p q r s = refl

free_of_newer : (five six a b c d : Bool) → five ≡ false → six ≡ true → not (cond five a (b || (six && (c || d)))) ≡ true → d ≡ false
free_of_newer true six a b c d p q h = cc
free_of_newer false false a b c d p q h = cc
free_of_newer false true a true c d p q h = cc
free_of_newer false true a false true d p q h = cc
free_of_newer false true a false false true p q h = cc
free_of_newer false true a false false false p q h = refl

not_there : (t r e : Bool) → r ≡ true → e ≡ true → (t && (not (r && e) && true)) ≡ false
not_there true true true p q = refl
not_there false r e p q = refl
not_there true false e p q = cc
not_there true true false p q = cc

or_second : (a b : Bool) → b ≡ true → (a || b) ≡ true
or_second true b h = refl
or_second false b h = h

goes_in : (k s i m k2 cl b d : Bool) → k ≡ true → s ≡ true → cond k (true && cond s i m) (cond k2 cl (not b && d)) ≡ true → i ≡ true
goes_in true true i m k2 cl b d p q h = h
goes_in true false i m k2 cl b d p q h = cc
goes_in false s i m k2 cl b d p q h = cc

none_behind : (x : Option ℕ) → option_or x None ≡ x
none_behind None = refl
none_behind (Some t) = refl

none_of : (x : Option ℕ) → is_some x ≡ false → x ≡ None
none_of None h = refl
none_of (Some t) h = absurd (cc)

true_and_false : {P : Type 0} (b : Bool) → b ≡ true → b ≡ false → P
true_and_false true p q = absurd (cc)
true_and_false false p q = absurd (cc)

module _ (identity : Identity) (same_type : OfOneType) where
  -- a record that passes is not there where none passes
  no_pass : (p : Resource → Bool) (z : Records) → ((q : Resource) → list_any (same_record q) z ≡ true → p q ≡ true → ⊥) → list_any p z ≡ false
  no_pass p z h = false_or (list_any p z) (λ e. let f : (q : Resource) × (p q ≡ true) × (list_any (same_record q) z ≡ true) = found identity p z e in h f.0 f.2 f.1)

  -- SOAs of the apex are of one RRset
  of_apex : (o : DomainName) (r q : Resource) → is_apex_soa o r ≡ true → is_apex_soa o q ≡ true → in_rrset r q ≡ true
  of_apex o r q h k =
      and_both _ _ (name_eq_via r.name q.name o (names.symm r.name o ∙ and_left _ _ h) (names.symm q.name o ∙ and_left _ _ k))
      (nat_eq_so (type_of q.rdata) (type_of r.rdata) (nat_eq_is (type_of q.rdata) 6 (and_right (name_eq o q.name) _ k) ∙ sym (nat_eq_is (type_of r.rdata) 6 (and_right (name_eq o r.name) _ h))))

  -- what is of the RRset of an SOA of the apex is such
  apex_of : (o : DomainName) (r q : Resource) → is_apex_soa o r ≡ true → in_rrset r q ≡ true → is_apex_soa o q ≡ true
  apex_of o r q h k =
      and_both _ _ (name_eq_via o q.name r.name (and_left _ _ h) (names.symm q.name r.name ∙ and_left _ _ k))
      (nat_eq_so (type_of q.rdata) 6 (nat_eq_is (type_of q.rdata) (type_of r.rdata) (and_right (name_eq r.name q.name) _ k) ∙ nat_eq_is (type_of r.rdata) 6 (and_right (name_eq o r.name) _ h)))

  abbrev pub Ready : DomainName → Records → Type 0
  Ready o z = (s : Resource) × IsOneSoa o z s × (s.dns_class ≡ 1) × IsSoa s.rdata × (has_cname z o ≡ false)

  -- ---- a turn

  -- an SOA that comes to the apex is newer
  coming_soa : (o : DomainName) (z : Records) (r s : Resource) → IsOneSoa o z s → is_apex_soa o r ≡ true → is_added false z r ≡ true → IsSoa r.rdata
  coming_soa o z r s h n k =
      let p : Resource → Bool = λ q. in_rrset r q && not (is_newer r.rdata q.rdata) in
      let free : not (is_ignored z r) ≡ true = and_left _ _ (and_right (r.dns_class == 1) _ k) in
      let six : is_type 6 r ≡ true = and_right (name_eq o r.name) _ n in
      let all : list_any p z ≡ false =
      free_of_newer (is_type 5 r) (is_type 6 r) (list_any (λ q. is_at r.name q && not (is_type 5 q)) z) (list_any (λ q. is_at r.name q && is_type 5 q) z) (not (list_any (in_rrset r) z)) (list_any p z) (six_apart (type_of r.rdata) six) six free in
      newer_is_soa r.rdata s.rdata (settled (is_newer r.rdata s.rdata) refl all)
    where
      settled : (b : Bool) → is_newer r.rdata s.rdata ≡ b → list_any (λ q. in_rrset r q && not (is_newer r.rdata q.rdata)) z ≡ false → is_newer r.rdata s.rdata ≡ true
      settled true e all = e
      settled false e all =
          true_and_false (list_any (λ q. in_rrset r q && not (is_newer r.rdata q.rdata)) z)
          (passes identity (λ q. in_rrset r q && not (is_newer r.rdata q.rdata)) (both_respect (in_rrset r) (λ q. not (is_newer r.rdata q.rdata)) (rrset_respects identity r) (not_respects (λ q. is_newer r.rdata q.rdata) (newer_respects identity r.rdata))) s (and_both _ _ (of_apex o r s n h.0) (ap not e)) z h.1) all

  -- no CNAME comes beside the SOA
  no_cname : (o : DomainName) (z : Records) (r s : Resource) (b : Bool) → IsOneSoa o z s → has_cname z o ≡ false → (a : Bool) → a ≡ is_added false z r
      → has_cname (filter (λ q. not (is_deleted_when o r a b q)) z ++ cond a (r ∷ []) []) o ≡ false
  no_cname o z r s b h e a k =
      let p : Resource → Bool = λ q. is_at o q && is_type 5 q in
      let keep : Resource → Bool = λ q. not (is_deleted_when o r a b q) in
      list_any-append p (filter keep z) (cond a (r ∷ []) []) ∙ or_none _ _ (none_kept p keep z e) (tail_none p r a (λ t. false_or (p r) (λ n. stands n (sym k ∙ t))))
    where
      stands : (is_at o r && is_type 5 r) ≡ true → is_added false z r ≡ true → ⊥
      stands n t =
          let free : not (is_ignored z r) ≡ true = and_left _ _ (and_right (r.dns_class == 1) _ t) in
          let others : list_any (λ q. is_at r.name q && not (is_type 5 q)) z ≡ false =
          other_free (is_type 5 r) _ (list_any (λ q. is_at r.name q && is_type 5 q) z) (is_type 6 r && (not (list_any (in_rrset r) z) || list_any (λ q. in_rrset r q && not (is_newer r.rdata q.rdata)) z)) (and_right (name_eq o r.name) _ n) free in
          let others_respect : Respects (λ q. is_at o q && not (is_type 5 q)) = other_respects identity same_type o in
          let beside : list_any (λ q. is_at o q && not (is_type 5 q)) z ≡ true =
          passes identity (λ q. is_at o q && not (is_type 5 q)) others_respect s (and_both _ _ (and_left _ _ h.0) (ap not (six_apart (type_of s.rdata) (and_right (name_eq o s.name) _ h.0)))) z h.1 in
          true_and_false (list_any (λ q. is_at r.name q && not (is_type 5 q)) z) (sym (named_alike (λ q. not (is_type 5 q)) o r.name (and_left _ _ n) z) ∙ beside) others

  no_cname_turn : (o : DomainName) (z : Records) (r s : Resource) → IsOneSoa o z s → has_cname z o ≡ false → has_cname (after_record false o z r) o ≡ false
  unfolding after_record
  no_cname_turn o z r s h e = no_cname o z r s (is_spared false o z r) h e (is_added false z r) refl

  ready_turn : (o : DomainName) (z : Records) (r : Resource) → Ready o z → Ready o (after_record false o z r)
  ready_turn o z r h = from (one_turn identity same_type false o z r h.0 h.1)
    where
      from : After identity same_type false o z r h.0 (after_record false o z r) → Ready o (after_record false o z r)
      from t = elim t.2 as (λ _. Ready o (after_record false o z r)) [
        | inl e ↦ (t.0, t.1, ap (λ (q : Resource). q.dns_class) e ∙ h.2, subst (λ (q : Resource). IsSoa q.rdata) (sym e) h.3, no_cname_turn o z r h.0 h.1 h.4)
        | inr e ↦ (
          t.0,
          t.1,
          ap (λ (q : Resource). q.dns_class) e.0 ∙ nat_eq_is r.dns_class 1 (and_left _ _ e.1),
          subst (λ (q : Resource). IsSoa q.rdata) (sym e.0) (coming_soa o z r h.0 h.1 (ap (is_apex_soa o) (sym e.0) ∙ t.1.0) e.1),
          no_cname_turn o z r h.0 h.1 h.4,
        )
      ]

  pub ready_fold : (o : DomainName) (rs z : Records) → Ready o z → Ready o (after_updates false o z rs)
  ready_fold o [] z h = h
  ready_fold o (r ∷ rs) z h = ready_fold o rs (after_record false o z r) (ready_turn o z r h)

  pub ready_next : (o : DomainName) (z : Records) → Ready o z → Ready o (map (incremented o) z)
  ready_next o z h = (next_soa h.0, one_next identity same_type o z h.0 h.1, h.2, next_is_soa h.0.rdata h.3, cname_next o o z ∙ h.4)

  pub ready_same : (o : DomainName) (z w : Records) → SameZone z w → Ready o z → Ready o w
  ready_same o z w e h =
      (h.0, one_soa_same identity same_type o z w h.0 e h.1, h.2, h.3, sym (any_same identity (λ q. is_at o q && is_type 5 q) (cname_respects identity same_type o) z w e) ∙ h.4)

  -- ---- the SOA with the next serial comes into what the records left

  module _ (o : DomainName) (z : Records) (h : Ready o z) (x : Resource) (n : is_apex_soa o x ≡ true) (ttl : ttl_at (map (incremented o) z) x ≡ Some x.ttl) where
    abbrev after : Records
    after = map (incremented o) z

    one_after : IsOneSoa o after (next_soa h.0)
    one_after = one_next identity same_type o z h.0 h.1

    is_next : same_record (next_soa h.0) x ≡ true
    is_next = only_soa identity same_type o after (next_soa h.0) x one_after n (sym (some_ttl after x) ∙ ap is_some ttl)

    x_class : (x.dns_class == 1) ≡ true
    x_class = nat_eq_so x.dns_class 1 (sym ((identity (next_soa h.0) x).0 is_next).class ∙ h.2)

    x_newer : is_newer x.rdata h.0.rdata ≡ true
    x_newer =
        sym (newer_lower_first x.rdata h.0.rdata) ∙ ap (λ d. is_newer d h.0.rdata) (sym ((identity (next_soa h.0) x).0 is_next).rdata)
        ∙ newer_lower_first (next_data h.0.rdata) h.0.rdata ∙ newer_next h.0.rdata h.3

    x_other : same_record x h.0 ≡ false
    x_other = false_or (same_record x h.0) (λ e. true_and_false (is_newer x.rdata h.0.rdata) x_newer (newer_respects identity x.rdata x h.0 e ∙ newer_self x.rdata (newer_is_soa x.rdata h.0.rdata x_newer)))

    x_six : is_type 6 x ≡ true
    x_six = and_right (name_eq o x.name) _ n

    x_not_ignored : is_ignored z x ≡ false
    x_not_ignored =
        not_ignored (is_type 5 x) (is_type 6 x) (list_any (λ q. is_at x.name q && not (is_type 5 q)) z) (list_any (λ q. is_at x.name q && is_type 5 q) z) (list_any (in_rrset x) z) (list_any (λ q. in_rrset x q && not (is_newer x.rdata q.rdata)) z)
        (six_apart (type_of x.rdata) x_six) (sym (named_alike (is_type 5) o x.name (and_left _ _ n) z) ∙ h.4)
        (passes identity (in_rrset x) (rrset_respects identity x) h.0 (of_apex o x h.0 n h.1.0) z h.1.1)
        (no_pass (λ q. in_rrset x q && not (is_newer x.rdata q.rdata)) z (λ q is p.
        let same : same_record h.0 q ≡ true = only_soa identity same_type o z h.0 q h.1 (apex_of o x q n (and_left _ _ p)) is in
        true_and_false (is_newer x.rdata q.rdata) (newer_respects identity x.rdata h.0 q same ∙ x_newer) (not_true _ (and_right (in_rrset x q) _ p))))

    x_not_there : adds_nothing_new false z x ≡ false
    x_not_there =
        not_there (has_ttl x.ttl (ttl_at z x)) (replaces_rrset x) (list_any (λ q. in_rrset x q && not (same_record x q)) z) (or_second (is_type 5 x) (is_type 6 x) x_six)
        (passes identity (λ q. in_rrset x q && not (same_record x q)) (both_respect (in_rrset x) (λ q. not (same_record x q)) (rrset_respects identity x) (not_respects (same_record x) (same_respects identity x))) h.0 (and_both _ _ (of_apex o x h.0 n h.1.0) (ap not x_other)) z h.1.1)

    x_comes : is_added false z x ≡ true
    x_comes = and_both _ _ x_class (and_both _ _ (ap not x_not_ignored) (ap not x_not_there))

    -- another record is not incremented
    next_step : (q r : Resource) (t : Option ℕ) (b : Bool) → is_apex_soa o r ≡ b → is_apex_soa o q ≡ false
        → cond (same_record q (cond b (next_soa r) r)) (Some (cond b (next_soa r) r).ttl) t ≡ cond (same_record q r) (Some r.ttl) t
    next_step q r t true e k =
        ap (λ m. cond m (Some r.ttl) t)
        (false_or (same_record q (next_soa r)) (λ s. true_and_false (is_apex_soa o q) (sym (soa_respects identity same_type o q (next_soa r) s) ∙ apex_next o r ∙ e) k)
        ∙ sym (false_or (same_record q r) (λ s. true_and_false (is_apex_soa o q) (sym (soa_respects identity same_type o q r s) ∙ e) k)))
    next_step q r t false e k = refl

    other_ttl : (q : Resource) → is_apex_soa o q ≡ false → (w : Records) → ttl_at (map (incremented o) w) q ≡ ttl_at w q
    other_ttl q k [] = refl
    other_ttl q k (r ∷ w) = next_step q r (ttl_at (map (incremented o) w) q) (is_apex_soa o r) refl k ∙ ap (λ t. cond (same_record q r) (Some r.ttl) t) (other_ttl q k w)

    soa_ttl : (q : Resource) (m : Bool) → same_record q x ≡ m → is_apex_soa o q ≡ true → ttl_at after q ≡ cond m (Some x.ttl) None
    soa_ttl q true e k = ttl_same identity q x e after ∙ ttl
    soa_ttl q false e k =
        none_of (ttl_at after q) (some_ttl after q ∙ false_or (list_any (same_record q) after)
        (λ is. true_and_false (same_record q x) (same_via identity q (next_soa h.0) x (same_turned identity (next_soa h.0) q (only_soa identity same_type o after (next_soa h.0) q one_after k is)) is_next) e))

    abbrev keep : Bool → Resource → Bool
    keep b q = not (is_deleted_when o x true b q)

    ttl_cases : (b : Bool) (q : Resource) (k : Bool) → is_apex_soa o q ≡ k → ttl_at after q ≡ option_or (cond (keep b q) (ttl_at z q) None) (cond (same_record q x) (Some x.ttl) None)
    ttl_cases b q true e =
        soa_ttl q (same_record q x) refl e
        ∙ ap (λ v. option_or (cond v (ttl_at z q) None) (cond (same_record q x) (Some x.ttl) None)) (sym (ap not (soa_goes same_type o x q b n x_class e)))
    ttl_cases b q false e =
        let stays : keep b q ≡ true =
        not_so _ (false_or _ (λ g. true_and_false (is_apex_soa o q)
        (apex_of o x q n (goes_in (x.dns_class == 1) (replaces_rrset x) (in_rrset x q) (same_record x q) (x.dns_class == 255) (is_in_deleted_rrsets o x q) b _ x_class (or_second (is_type 5 x) (is_type 6 x) x_six) g)) e)) in
        let apart : same_record q x ≡ false = false_or (same_record q x) (λ s. true_and_false (is_apex_soa o q) (sym (soa_respects identity same_type o q x s) ∙ n) e) in
        other_ttl q e z ∙ sym (none_behind (ttl_at z q))
        ∙ ap (λ v. option_or (cond v (ttl_at z q) None) None) (sym stays)
        ∙ ap (λ m. option_or (cond (keep b q) (ttl_at z q) None) (cond m (Some x.ttl) None)) (sym apart)

    comes_in : (a b : Bool) → a ≡ true → SameZone after (filter (λ q. not (is_deleted_when o x a b q)) z ++ cond a (x ∷ []) [])
    comes_in true b t q =
        ttl_cases b q (is_apex_soa o q) refl
        ∙ ap (λ v. option_or v (cond (same_record q x) (Some x.ttl) None)) (sym (ttl_filter (keep b) (not_respects (is_deleted_when o x true b) (goes_respects identity o x true b)) z q))
        ∙ sym (ttl_append (filter (keep b) z) (x ∷ []) q)
    comes_in false b t q = absurd (cc)

    pub soa_comes : SameZone after (after_record false o z x)
    unfolding after_record
    soa_comes = comes_in (is_added false z x) (is_spared false o z x) x_comes
