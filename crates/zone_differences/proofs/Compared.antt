-- What changed at some names is what changed, where all else stays.
use Rattle.std.proofs.Common.{◌≡◌, ◌∙◌, ap, sym, refl, ℕ, Bool, true, false, cond, not, ◌&&◌, ◌||◌, ◌++◌, [], ◌∷◌, List, filter, Option, Some, None}
use Rattle.std.specs.List.{flat_map}
use Rattle.std.specs.Option.{option_or}
use Rattle.wire_names.specs.rr.domain.DomainName.{DomainName}
use Rattle.hickory_base.specs.zone_store.ZoneRecords.{is_at, rrset}
use Rattle.hickory_store.specs.updates.Identity.{SameZone, ttl_at}
use Rattle.hickory_store.specs.updates.NameUpdates.{of_name}
use Rattle.hickory_store.specs.updates.UpdateAnswers.{is_apex_soa}
use Rattle.hickory_store.proofs.lemmas.updates.ApexNs.{Records, Resource}
use Rattle.hickory_store.proofs.lemmas.updates.SameZones.{Identity, name_respects, ttl_append, ttl_filter}
use Rattle.zone_differences.specs.Differences.{IsDifference, is_changed, same_ttl}
use Rattle.zone_differences.specs.Standing.{AreStanding, are_among, came, went}
use Rattle.zone_differences.specs.declared.difference.Difference.{Difference}
use Rattle.zone_differences.specs.declared.names.NameRecords.{NameRecords}
use Rattle.zone_differences.proofs.Applying.{changed_respects, same_ttl_own}

at_name : (b s : Bool) (x y v : Option ℕ) → cond (not s && not (same_ttl (cond b x None) (cond b y None))) (cond b v None) None ≡ cond (b && (not s && not (same_ttl x y))) v None
at_name true s x y v = refl
at_name false true x y v = refl
at_name false false x y v = refl

join : (a b c : Bool) (v : Option ℕ) → option_or (cond (a && c) v None) (cond (b && c) v None) ≡ cond ((a || b) && c) v None
join true true true None = refl
join true true true (Some t) = refl
join true true false v = refl
join true false true None = refl
join true false true (Some t) = refl
join true false false v = refl
join false b c v = refl

unchanged : (s : Bool) (x y : Option ℕ) → x ≡ y → (not s && not (same_ttl x y)) ≡ false
unchanged true x y e = refl
unchanged false x y e = ap not (ap (λ v. same_ttl v y) e ∙ same_ttl_own y)

module _ (identity : Identity) (o : DomainName) (old new : Records) where
  -- of the records that a version has of a name, those that changed
  abbrev part : Records → NameRecords → Records
  part z e = filter (is_changed o (of_name e.name old) (of_name e.name new)) (of_name e.name z)

  named_ttl : (n : DomainName) (z : Records) (q : Resource) → ttl_at (of_name n z) q ≡ cond (is_at n q) (ttl_at z q) None
  named_ttl n z q = ttl_filter (is_at n) (name_respects identity n) z q

  one : (z : Records) (e : NameRecords) (q : Resource) → ttl_at (part z e) q ≡ cond (is_at e.name q && is_changed o old new q) (ttl_at z q) None
  one z e q =
      ttl_filter (is_changed o (of_name e.name old) (of_name e.name new)) (changed_respects identity o (of_name e.name old) (of_name e.name new)) (of_name e.name z) q
      ∙ (λ i. cond (not (is_apex_soa o q) && not (same_ttl (named_ttl e.name old q i) (named_ttl e.name new q i))) (named_ttl e.name z q i) None)
      ∙ at_name (is_at e.name q) (is_apex_soa o q) (ttl_at old q) (ttl_at new q) (ttl_at z q)

  parts : (z : Records) (es : List NameRecords) (q : Resource) → ttl_at (flat_map (part z) es) q ≡ cond (are_among es q.name && is_changed o old new q) (ttl_at z q) None
  parts z [] q = refl
  parts z (e ∷ es) q =
      ttl_append (part z e) (flat_map (part z) es) q ∙ (λ i. option_or (one z e q i) (parts z es q i)) ∙ join (is_at e.name q) (are_among es q.name) (is_changed o old new q) (ttl_at z q)

  went_is : (es : List NameRecords) → AreStanding old es → flat_map (went o new) es ≡ flat_map (part old) es
  went_is [] h = refl
  went_is (e ∷ es) h = λ i. filter (is_changed o (h.0 i) (of_name e.name new)) (h.0 i) ++ went_is es h.1 i

  came_is : (es : List NameRecords) → AreStanding old es → flat_map (came o new) es ≡ flat_map (part new) es
  came_is [] h = refl
  came_is (e ∷ es) h = λ i. filter (is_changed o (h.0 i) (of_name e.name new)) (of_name e.name new) ++ came_is es h.1 i

  module _ (es : List NameRecords) (still : (q : Resource) → are_among es q.name ≡ false → ttl_at old q ≡ ttl_at new q) where
    covered : (q : Resource) (v : Option ℕ) (a : Bool) → are_among es q.name ≡ a → cond (a && is_changed o old new q) v None ≡ cond (is_changed o old new q) v None
    covered q v true e = refl
    covered q v false e = sym (ap (λ b. cond b v None) (unchanged (is_apex_soa o q) (ttl_at old q) (ttl_at new q) (still q e)))

    all_parts : (z : Records) → SameZone (flat_map (part z) es) (filter (is_changed o old new) z)
    all_parts z q = parts z es q ∙ covered q (ttl_at z q) (are_among es q.name) refl ∙ sym (ttl_filter (is_changed o old new) (changed_respects identity o old new) z q)

    pub is_difference : (d : Difference) → AreStanding old es → rrset old o 6 ≡ d.old_soa ∷ [] → rrset new o 6 ≡ d.new_soa ∷ [] → d.deleted ≡ flat_map (went o new) es → d.added ≡ flat_map (came o new) es
        → IsDifference o old new d
    is_difference d standing soa other go come = record {
      old_soa = soa;
      new_soa = other;
      deleted = λ q. ap (λ (l : Records). ttl_at l q) (go ∙ went_is es standing) ∙ all_parts old q;
      added = λ q. ap (λ (l : Records). ttl_at l q) (come ∙ came_is es standing) ∙ all_parts new q;
    }
