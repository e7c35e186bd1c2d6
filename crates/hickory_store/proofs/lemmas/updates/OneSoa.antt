-- The one SOA of the apex, by identities.
use Rattle.std.proofs.Common.{◌≡◌, ◌⊎◌, inl, inr, ◌∙◌, ap, sym, refl, Bool, true, false, cond, not, ◌&&◌, ◌||◌, ◌++◌, [], ◌∷◌, filter, map}
use Rattle.std.specs.Prelude.{◌==◌}
use Rattle.std.specs.List.{list_any}
use Rattle.std.proofs.lemmas.List.Folds.{list_any-append}
use Rattle.wire_names.specs.rr.domain.DomainName.{DomainName}
use Rattle.wire_messages.specs.rr.RecordSameness.{SameData, SameRecord, lower_data}
use Rattle.wire_messages.specs.declared.rr.rdata.RData.{RData}
use Rattle.wire_messages.specs.declared.rr.rdata.RData.TheVariants as rdata
use Rattle.hickory_base.specs.zone_store.ZoneRecords.{is_at}
use Rattle.hickory_store.specs.updates.Changes.{is_added, after_updates, is_deleted_when, is_spared, is_type, after_counted, after_record, counted, one_ttl}
use Rattle.hickory_store.specs.updates.Identity.{SameZone, same_record}
use Rattle.hickory_store.specs.updates.UpdateAnswers.{incremented, is_apex_soa, next_data}
use Rattle.hickory_store.specs.updates.UpdateLaws.{HasOneSoa, IsOneSoa}
use Rattle.hickory_store.proofs.lemmas.updates.ApexNs.{OfOneType, Records, Resource, and_both, and_left, any_front, any_kept, any_last, false_or, not_so}
use Rattle.hickory_store.proofs.lemmas.updates.ApexSoa.{goes_soa, six_spared, soa_goes}
use Rattle.hickory_store.proofs.lemmas.updates.CnameAlone.{and_false, first_false, none_kept, or_none}
use Rattle.hickory_store.proofs.lemmas.updates.OneTtl.{any_settled}
use Rattle.hickory_store.proofs.lemmas.updates.SameZones.{Identity, Respects, any_same, both_respect, name_respects, not_respects, passes, same_itself, same_respects, type_respects}
use Rattle.hickory_store.proofs.lemmas.updates.SerialSteps.{apex_next, or_first, or_rest}

-- ---- tests of lists

gone_step : (p : Resource → Bool) (x : Resource) (more : Records) (k b : Bool) → p x ≡ b → (b ≡ true → k ≡ false) → list_any p more ≡ false → list_any p (cond k (x ∷ more) more) ≡ false
gone_step p x more true true e h n = absurd (let f : true ≡ false = h refl in cc)
gone_step p x more true false e h n = or_none (p x) (list_any p more) e n
gone_step p x more false b e h n = n

gone : (p keep : Resource → Bool) → ((x : Resource) → p x ≡ true → keep x ≡ false) → (xs : Records) → list_any p (filter keep xs) ≡ false
gone p keep h [] = refl
gone p keep h (x ∷ xs) = gone_step p x (filter keep xs) (keep x) (p x) refl (h x) (gone p keep h xs)

pub tail_none : (p : Resource → Bool) (r : Resource) (a : Bool) → (a ≡ true → p r ≡ false) → list_any p (cond a (r ∷ []) []) ≡ false
tail_none p r true h = or_none (p r) false (h refl) refl
tail_none p r false h = refl

any_map_step : (a b c d : Bool) → (a ≡ true → c ≡ true) → (b ≡ true → d ≡ true) → (a || b) ≡ true → (c || d) ≡ true
any_map_step true b true d h k e = refl
any_map_step true b false d h k e = absurd (let f : false ≡ true = h refl in cc)
any_map_step false b true d h k e = refl
any_map_step false b false d h k e = k e

any_map : (p s : Resource → Bool) (f : Resource → Resource) → ((q : Resource) → p q ≡ true → s (f q) ≡ true) → (z : Records) → list_any p z ≡ true → list_any s (map f z) ≡ true
any_map p s f h [] e = e
any_map p s f h (q ∷ z) e = any_map_step (p q) (list_any p z) (s (f q)) (list_any s (map f z)) (h q) (any_map p s f h z) e

none_map : (p s : Resource → Bool) (f : Resource → Resource) → ((q : Resource) → p q ≡ false → s (f q) ≡ false) → (z : Records) → list_any p z ≡ false → list_any s (map f z) ≡ false
none_map p s f h [] e = e
none_map p s f h (q ∷ z) e = or_none (s (f q)) (list_any s (map f z)) (h q (or_first (p q) _ e)) (none_map p s f h z (or_rest (p q) _ e))

-- ---- data with the next serial

pub lower_next : (d : RData) → lower_data (next_data d) ≡ next_data (lower_data d)
lower_next (rdata.SOA s) = refl
lower_next (rdata.A x) = refl
lower_next (rdata.AAAA x) = refl
lower_next (rdata.NS x) = refl
lower_next (rdata.CNAME x) = refl
lower_next (rdata.PTR x) = refl
lower_next (rdata.MX x) = refl
lower_next (rdata.TXT x) = refl
lower_next (rdata.OPT x) = refl
lower_next (rdata.TSIG x) = refl
lower_next (rdata.NULL x) = refl
lower_next (rdata.Update0 x) = refl
lower_next (rdata.Unknown x y) = refl

pub next_same : (d e : RData) → SameData d e → SameData (next_data d) (next_data e)
next_same d e h = lower_next d ∙ ap next_data h ∙ sym (lower_next e)

abbrev pub next_soa : Resource → Resource
next_soa s = record s { rdata = next_data s.rdata }

not_both : (a b : Bool) → a ≡ true → (a && not b) ≡ false → b ≡ true
not_both true true h e = refl
not_both true false h e = cc
not_both false b h e = cc

both_false : (a b : Bool) → b ≡ true → (a && not b) ≡ false
both_false a b h = and_false a (not b) (ap not h)

module _ (identity : Identity) (same_type : OfOneType) where
  pub soa_respects : (o : DomainName) → Respects (is_apex_soa o)
  soa_respects o = both_respect (is_at o) (is_type 6) (name_respects identity o) (type_respects identity 6)

  others_respect : (o : DomainName) (s : Resource) → Respects (λ q. is_apex_soa o q && not (same_record s q))
  others_respect o s = both_respect (is_apex_soa o) (λ q. not (same_record s q)) (soa_respects o) (not_respects (same_record s) (same_respects identity s))

  -- an SOA of the apex that is in the zone is the one
  pub only_soa : (o : DomainName) (z : Records) (s x : Resource) → IsOneSoa o z s → is_apex_soa o x ≡ true → list_any (same_record x) z ≡ true → same_record s x ≡ true
  only_soa o z s x h n e = settled (same_record s x) refl
    where
      settled : (b : Bool) → same_record s x ≡ b → b ≡ true
      settled true k = refl
      settled false k =
          absurd
          (let f : list_any (λ q. is_apex_soa o q && not (same_record s q)) z ≡ true = passes identity (λ q. is_apex_soa o q && not (same_record s q)) (others_respect o s) x (and_both _ _ n (ap not k)) z e in
          let g : false ≡ true = sym (h.2) ∙ f in cc)

  pub one_soa_same : (o : DomainName) (z w : Records) (s : Resource) → SameZone z w → IsOneSoa o z s → IsOneSoa o w s
  one_soa_same o z w s e h = (
    h.0,
    sym (any_same identity (same_record s) (same_respects identity s) z w e) ∙ h.1,
    sym (any_same identity (λ q. is_apex_soa o q && not (same_record s q)) (others_respect o s) z w e) ∙ h.2,
  )

  -- ---- a turn

  stays_soa : (f : Bool) (o : DomainName) (z : Records) (r s : Resource) (a b : Bool) → b ≡ is_spared f o z r → ((a ≡ true) × (is_apex_soa o r ≡ true) → ⊥) → IsOneSoa o z s
      → IsOneSoa o (filter (λ q. not (is_deleted_when o r a b q)) z ++ cond a (r ∷ []) []) s
  stays_soa f o z r s a b t never h =
      let keep : Resource → Bool = λ q. not (is_deleted_when o r a b q) in
      let other : Resource → Bool = λ q. is_apex_soa o q && not (same_record s q) in
      let kept : (q : Resource) → is_apex_soa o q ≡ true → keep q ≡ true =
      λ q n. not_so _ (false_or _ (λ g. elim (goes_soa same_type o r q a b n g) [ inl w ↦ never w | inr w ↦ six_spared same_type f o z r w.1 (sym t ∙ w.0) ])) in (
        h.0,
        any_front (same_record s) (filter keep z) (cond a (r ∷ []) []) (any_kept (same_record s) (same_record s) keep z (λ q e. (e, kept q (soa_respects o s q e ∙ h.0))) h.1),
        list_any-append other (filter keep z) (cond a (r ∷ []) [])
            ∙ or_none _ _ (none_kept other keep z h.2) (tail_none other r a (λ e. first_false (is_apex_soa o r) _ (false_or _ (λ n. never (e, n))))),
      )

  comes_soa : (o : DomainName) (z : Records) (r : Resource) (b : Bool) → is_apex_soa o r ≡ true → (r.dns_class == 1) ≡ true
      → IsOneSoa o (filter (λ q. not (is_deleted_when o r true b q)) z ++ r ∷ []) r
  comes_soa o z r b n k =
      let keep : Resource → Bool = λ q. not (is_deleted_when o r true b q) in
      let other : Resource → Bool = λ q. is_apex_soa o q && not (same_record r q) in (
        n,
        any_last (same_record r) (filter keep z) r (same_itself identity r),
        list_any-append other (filter keep z) (r ∷ [])
            ∙ or_none _ _ (gone other keep (λ q e. ap not (soa_goes same_type o r q b n k (and_left _ _ e))) z) (or_none (other r) false (both_false (is_apex_soa o r) (same_record r r) (same_itself identity r)) refl),
      )

  -- the one SOA after a turn is that of before, or the record that came
  abbrev pub After : Bool → DomainName → Records → Resource → Resource → Records → Type 0
  After f o z r s w = (t : Resource) × IsOneSoa o w t × ((t ≡ s) ⊎ ((t ≡ r) × (is_added f z r ≡ true)))

  one_cases : (f : Bool) (o : DomainName) (z : Records) (r s : Resource) (n a b : Bool) → is_apex_soa o r ≡ n → a ≡ is_added f z r → b ≡ is_spared f o z r → IsOneSoa o z s
      → After f o z r s (filter (λ q. not (is_deleted_when o r a b q)) z ++ cond a (r ∷ []) [])
  one_cases f o z r s false a b p e t h = (s, stays_soa f o z r s a b t (λ w. cc (w.1, p)) h, inl refl)
  one_cases f o z r s true true b p e t h = (r, comes_soa o z r b p (and_left _ _ (sym e)), inr (refl, sym e))
  one_cases f o z r s true false b p e t h = (s, stays_soa f o z r s false b t (λ w. cc (w.0)) h, inl refl)

  settled_soa : (c : Bool) (o : DomainName) (r : Resource) (z : Records) (s : Resource) → IsOneSoa o z s → IsOneSoa o (cond c (one_ttl r z) z) s
  settled_soa c o r z s h = (
    h.0,
    any_settled (same_record s) (λ q ttl. refl) c r z ∙ h.1,
    any_settled (λ q. is_apex_soa o q && not (same_record s q)) (λ q ttl. refl) c r z ∙ h.2,
  )

  one_counted : (f : Bool) (o : DomainName) (z : Records) (r s : Resource) → IsOneSoa o z s → After f o z r s (after_counted f o z r)
  one_counted f o z r s h =
      let t : After f o z r s (filter (λ q. not (is_deleted_when o r (is_added f z r) (is_spared f o z r) q)) z ++ cond (is_added f z r) (r ∷ []) []) =
      one_cases f o z r s (is_apex_soa o r) (is_added f z r) (is_spared f o z r) refl refl refl h in
      (t.0, settled_soa (f && is_added f z r) o r _ t.0 t.1, t.2)

  pub one_turn : (f : Bool) (o : DomainName) (z : Records) (r s : Resource) → IsOneSoa o z s → After f o z (counted f r) s (after_record f o z r)
  unfolding after_record
  one_turn f o z r s h = one_counted f o z (counted f r) s h

  pub one_fold : (f : Bool) (o : DomainName) (rs z : Records) → HasOneSoa o z → HasOneSoa o (after_updates f o z rs)
  one_fold f o [] z h = h
  one_fold f o (r ∷ rs) z h =
      let t : After f o z (counted f r) h.0 (after_record f o z r) = one_turn f o z r h.0 h.1 in one_fold f o rs (after_record f o z r) (t.0, t.1)

  -- ---- the increment

  same_next : (s q : Resource) → same_record s q ≡ true → same_record (next_soa s) (next_soa q) ≡ true
  same_next s q e = let i : SameRecord s q = (identity s q).0 e in (identity (next_soa s) (next_soa q)).1 (record { name = i.name; class = i.class; rdata = next_same s.rdata q.rdata i.rdata })

  next_is : (o : DomainName) (q : Resource) (b : Bool) → b ≡ true → cond b (next_soa q) q ≡ next_soa q
  next_is o q true h = refl
  next_is o q false h = cc

  pub incremented_soa : (o : DomainName) (q : Resource) → is_apex_soa o q ≡ true → incremented o q ≡ next_soa q
  incremented_soa o q n = next_is o q (is_apex_soa o q) n

  other_next : (o : DomainName) (s q : Resource) (b : Bool) → is_apex_soa o q ≡ b → (b && not (same_record s q)) ≡ false
      → (is_apex_soa o (cond b (next_soa q) q) && not (same_record (next_soa s) (cond b (next_soa q) q))) ≡ false
  other_next o s q true n e = both_false (is_apex_soa o (next_soa q)) (same_record (next_soa s) (next_soa q)) (same_next s q (not_both true (same_record s q) refl e))
  other_next o s q false n e = first_false (is_apex_soa o q) (not (same_record (next_soa s) q)) n

  pub one_next : (o : DomainName) (z : Records) (s : Resource) → IsOneSoa o z s → IsOneSoa o (map (incremented o) z) (next_soa s)
  one_next o z s h = (
    apex_next o s ∙ h.0,
    any_map (same_record s) (same_record (next_soa s)) (incremented o)
        (λ q e. ap (same_record (next_soa s)) (incremented_soa o q (soa_respects o s q e ∙ h.0)) ∙ same_next s q e) z h.1,
    none_map (λ q. is_apex_soa o q && not (same_record s q)) (λ q. is_apex_soa o q && not (same_record (next_soa s) q)) (incremented o) (λ q e. other_next o s q (is_apex_soa o q) refl e) z h.2,
  )
