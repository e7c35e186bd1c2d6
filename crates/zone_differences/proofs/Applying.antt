-- Whoever applies the difference between two versions to the one has the other.
use Rattle.std.proofs.Common.{◌≡◌, ◌∙◌, ap, sym, refl, ℕ, Bool, true, false, cond, not, ◌&&◌, ◌||◌, [], ◌∷◌, Option, Some, None}
use Rattle.std.specs.Prelude.{◌==◌}
use Rattle.std.specs.List.{list_any}
use Rattle.std.specs.Option.{is_some, option_or}
use Rattle.std.proofs.lemmas.Bool.{eq-eqb, eqb-true}
use Rattle.wire_names.specs.rr.domain.DomainName.{DomainName}
use Rattle.wire_messages.specs.rr.RecordData.{type_of}
use Rattle.wire_names.proofs.lemmas.rr.domain.SameNames.{both_ways}
use Rattle.hickory_base.specs.zone_store.ZoneRecords.{is_at, is_of, rrset}
use Rattle.hickory_store.specs.updates.Changes.{is_type}
use Rattle.hickory_store.specs.updates.Identity.{SameZone, same_record, ttl_at}
use Rattle.hickory_store.specs.updates.UpdateAnswers.{is_apex_soa}
use Rattle.hickory_store.proofs.lemmas.updates.ApexNs.{Records, Resource}
use Rattle.hickory_store.proofs.lemmas.updates.SameZones.{Identity, Respects, both_respect, name_respects, not_respects, same_itself, same_turned, same_via, some_ttl, ttl_append, ttl_filter, type_respects}
use Rattle.zone_differences.specs.Differences.{AppliedLeads, AppliedRespects, applied, is_changed, same_ttl, without}
use Rattle.zone_differences.specs.declared.difference.Difference.{Difference}

-- one TTL, or none
pub same_ttl_is : (a b : Option ℕ) → same_ttl a b ≡ true → a ≡ b
same_ttl_is None None h = refl
same_ttl_is None (Some t) h = absurd (cc)
same_ttl_is (Some t) None h = absurd (cc)
same_ttl_is (Some t) (Some u) h = ap Some (eqb-true t u h)

pub same_ttl_own : (a : Option ℕ) → same_ttl a a ≡ true
same_ttl_own None = refl
same_ttl_own (Some t) = eq-eqb t t refl

-- ---- what is there once a difference was applied, where two versions have these TTLs

pair : (m n : ℕ) (c : Bool) → (m == n) ≡ c → option_or (cond (not (is_some (cond (not c) (Some m) None))) (Some m) None) (cond (not c) (Some n) None) ≡ Some n
pair m n true e = ap Some (eqb-true m n e)
pair m n false e = refl

others : (x y : Option ℕ) → option_or (cond (not (is_some (cond (not (same_ttl x y)) x None))) x None) (cond (not (same_ttl x y)) y None) ≡ y
others None None = refl
others None (Some n) = refl
others (Some m) None = refl
others (Some m) (Some n) = pair m n (m == n) refl

settled : (s a b : Bool) (x y : Option ℕ) (t u : ℕ) → (s ≡ true → x ≡ cond a (Some t) None) → (s ≡ true → y ≡ cond b (Some u) None) → (s ≡ false → a ≡ false) → (s ≡ false → b ≡ false)
    → option_or (cond (not (a || is_some (cond (not s && not (same_ttl x y)) x None))) x None) (cond b (Some u) (cond (not s && not (same_ttl x y)) y None)) ≡ y
settled true true b x y t u f g h k = sym (g refl)
settled true false b x y t u f g h k = ap (λ v. option_or v (cond b (Some u) None)) (f refl) ∙ sym (g refl)
settled false true b x y t u f g h k = absurd (let e : true ≡ false = h refl in cc)
settled false false true x y t u f g h k = absurd (let e : true ≡ false = k refl in cc)
settled false false false x y t u f g h k = others x y

module _ (identity : Identity) where
  -- ---- tests that see identities alone

  -- records of one identity have one TTL
  pub ttl_respects : (z : Records) (q r : Resource) → same_record q r ≡ true → ttl_at z r ≡ ttl_at z q
  ttl_respects [] q r h = refl
  ttl_respects (x ∷ z) q r h = λ i. cond (alike i) (Some x.ttl) (ttl_respects z q r h i)
    where
      alike : same_record r x ≡ same_record q x
      alike = both_ways (same_record r x) (same_record q x) (λ e. same_via identity q r x h e) (λ e. same_via identity r q x (same_turned identity q r h) e)

  pub soa_respects : (o : DomainName) → Respects (is_apex_soa o)
  soa_respects o = both_respect (is_at o) (is_type 6) (name_respects identity o) (type_respects identity 6)

  differs_respects : (old new : Records) → Respects (λ r. not (same_ttl (ttl_at old r) (ttl_at new r)))
  differs_respects old new q r h = λ i. not (same_ttl (ttl_respects old q r h i) (ttl_respects new q r h i))

  pub changed_respects : (o : DomainName) (old new : Records) → Respects (is_changed o old new)
  changed_respects o old new =
      both_respect (λ r. not (is_apex_soa o r)) (λ r. not (same_ttl (ttl_at old r) (ttl_at new r))) (not_respects (is_apex_soa o) (soa_respects o)) (differs_respects old new)

  kept_respects : (gone : Records) → Respects (λ q. not (list_any (same_record q) gone))
  kept_respects gone q r h = ap not (sym (some_ttl gone r) ∙ ap is_some (ttl_respects gone q r h) ∙ some_ttl gone q)

  -- ---- the SOA of a version

  six : (o : DomainName) (q : Resource) → is_of o 6 q ≡ is_apex_soa o q
  six o q = ap (λ b. is_at o q && b) (both_ways (6 == type_of q.rdata) (type_of q.rdata == 6) (λ h. eq-eqb (type_of q.rdata) 6 (sym (eqb-true 6 (type_of q.rdata) h))) (λ h. eq-eqb 6 (type_of q.rdata) (sym (eqb-true (type_of q.rdata) 6 h))))

  of_respects : (o : DomainName) → Respects (is_of o 6)
  of_respects o q r h = six o r ∙ soa_respects o q r h ∙ sym (six o q)

  module _ (o : DomainName) (z : Records) (s : Resource) (alone : rrset z o 6 ≡ s ∷ []) where
    soa_alone : (q : Resource) → is_apex_soa o q ≡ true → ttl_at z q ≡ cond (same_record q s) (Some s.ttl) None
    soa_alone q h =
        ap (λ b. cond b (ttl_at z q) None) (sym (six o q ∙ h)) ∙ sym (ttl_filter (is_of o 6) (of_respects o) z q) ∙ ap (λ (l : Records). ttl_at l q) alone

    is_soa : is_apex_soa o s ≡ true
    is_soa =
        sym (six o s)
        ∙ there (is_of o 6 s) (sym (ttl_filter (is_of o 6) (of_respects o) z s) ∙ ap (λ (l : Records). ttl_at l s) alone ∙ ap (λ b. cond b (Some s.ttl) None) (same_itself identity s))
      where
        there : (b : Bool) → cond b (ttl_at z s) None ≡ Some s.ttl → b ≡ true
        there true e = refl
        there false e = absurd (let f : ◌≡◌ {A = Option ℕ} None (Some s.ttl) = e in cc)

    not_soa : (q : Resource) → is_apex_soa o q ≡ false → same_record q s ≡ false
    not_soa q h = none (same_record q s) refl
      where
        none : (b : Bool) → same_record q s ≡ b → b ≡ false
        none true e = absurd (let f : true ≡ false = sym is_soa ∙ soa_respects o q s e ∙ h in cc)
        none false e = refl

  -- ---- a difference that is applied

  pub leads : AppliedLeads
  leads o old new d is q =
      ttl_append (without gone old) (d.new_soa ∷ d.added) q
      ∙ (λ i. option_or (first i) (cond (same_record q d.new_soa) (Some d.new_soa.ttl) (second i)))
      ∙ settled (is_apex_soa o q) (same_record q d.old_soa) (same_record q d.new_soa) (ttl_at old q) (ttl_at new q) d.old_soa.ttl d.new_soa.ttl
      (soa_alone o old d.old_soa is.old_soa q) (soa_alone o new d.new_soa is.new_soa q) (not_soa o old d.old_soa is.old_soa q) (not_soa o new d.new_soa is.new_soa q)
    where
      gone : Records
      gone = d.old_soa ∷ d.deleted

      first : ttl_at (without gone old) q ≡ cond (not (same_record q d.old_soa || is_some (cond (is_changed o old new q) (ttl_at old q) None))) (ttl_at old q) None
      first =
          ttl_filter (λ r. not (list_any (same_record r) gone)) (kept_respects gone) old q
          ∙ ap (λ b. cond (not (same_record q d.old_soa || b)) (ttl_at old q) None)
          (sym (some_ttl d.deleted q) ∙ ap is_some (is.deleted q ∙ ttl_filter (is_changed o old new) (changed_respects o old new) old q))

      second : ttl_at d.added q ≡ cond (is_changed o old new q) (ttl_at new q) None
      second = is.added q ∙ ttl_filter (is_changed o old new) (changed_respects o old new) new q

  pub applied_same : (d : Difference) (z w : Records) → SameZone z w → SameZone (applied d z) (applied d w)
  applied_same d z w h q =
      let gone : Records = d.old_soa ∷ d.deleted in
      let p : Resource → Bool = λ r. not (list_any (same_record r) gone) in
      ttl_append (without gone z) (d.new_soa ∷ d.added) q
      ∙ ap (λ x. option_or x (ttl_at (d.new_soa ∷ d.added) q)) (ttl_filter p (kept_respects gone) z q ∙ ap (λ x. cond (p q) x None) (h q) ∙ sym (ttl_filter p (kept_respects gone) w q))
      ∙ sym (ttl_append (without gone w) (d.new_soa ∷ d.added) q)

  pub respects : AppliedRespects
  respects [] z w h = h
  respects (d ∷ ds) z w h = respects ds (applied d z) (applied d w) (applied_same d z w h)
