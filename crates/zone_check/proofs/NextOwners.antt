-- The next owner name of NSEC records.
use Rattle.std.proofs.Common.{◌≡◌, ◌∙◌, ℕ, Bool, true, false, List, [], ◌∷◌, refl, sym, ap, subst, inl, inr}
use Rattle.std.specs.Prelude.{◌↔◌, IsTrue, is_some}
use Rattle.std.specs.List.{find}
use Rattle.std.specs.Ordering.{is_eq, ordering_reverse}
use Rattle.std.specs.BTreeMap.{BTreeMap}
use Rattle.std.specs.BTreeMap.Range.{IsRangeOf}
use Rattle.std.specs.declared.ops.Bound.TheVariants.{Excluded, Unbounded}
use Rattle.std.specs.declared.cmp.Ordering.{Ordering}
use Rattle.std.specs.declared.cmp.Ordering.TheVariants.{Less, Equal, Greater}
use Rattle.wire_names.proofs.lemmas.rr.domain.SameNames.{eq_from_same, same_order, lower_same}
use Rattle.wire_names.specs.representation.NameHash.{same_from_eq}
use Rattle.wire_names.specs.rr.domain.DomainName.{DomainName}
use Rattle.wire_names.specs.rr.domain.NameOrder.{SameName, lower_name, name_cmp, name_cmp_total, name_eq}
use Rattle.zone_denials.proofs.lemmas.NsecChains.{not_both}
use Rattle.zone_denials.specs.Nsec.{IsBefore}
use Rattle.zone_check.proofs.SameNames.{first_alike}
use Rattle.zone_denials.proofs.lemmas.EnclosedBetween.{same_back}
use Rattle.zone_check.specs.CheckedZones.{CheckedZone, Records, is_of, type_nsec}
use Rattle.zone_check.specs.Indexes.{HasNsecs}
use Rattle.zone_check.specs.SignedZones.{IsFirstLater, IsLaterOwner, IsNext}

same : (name : DomainName) → SameName name name
same name = record { labels = refl; marks = refl }

false_true : false ≡ true → ⊥
false_true e = cc

-- what is before a name is before the same name in other letters
pub before_alike : (a b c d : DomainName) → SameName a c → SameName b d → IsBefore a b → IsBefore c d
before_alike a b c d s u h = sym (same_order a b c d s u) ∙ h

owner_alike : (records : Records) (a b : DomainName) → SameName a b → is_some (find (is_of a type_nsec) records) ≡ true → is_some (find (is_of b type_nsec) records) ≡ true
owner_alike records a b s h = ap is_some (sym (first_alike records a b type_nsec s)) ∙ h

module _ (records : Records) where
  later_alike : (a b c d : DomainName) → SameName a c → SameName b d → IsLaterOwner records a b → IsLaterOwner records c d
  later_alike a b c d s u h = record { after = before_alike a b c d s u h.after; owner = owner_alike records b d u h.owner }

  pub first_later_alike : (a b c d : DomainName) → SameName a c → SameName b d → IsFirstLater records a b → IsFirstLater records c d
  first_later_alike a b c d s u h = record {
    later = later_alike a b c d s u h.later;
    first = λ other l before. h.first other (later_alike c other a other (same_back a c s) (same other) l) (before_alike other d other b (same other) (same_back b d u) before);
  }

  none_alike : (a c : DomainName) → SameName a c → ((other : DomainName) → ¬ (IsLaterOwner records a other)) → (other : DomainName) → ¬ (IsLaterOwner records c other)
  none_alike a c s none other l = none other (later_alike c other a other (same_back a c s) (same other) l)

  -- what the range after a name says of its first entry
  pub none_later : (nsecs : BTreeMap DomainName ℕ) (name : DomainName) (range : List (DomainName × ℕ)) → HasNsecs records nsecs → IsRangeOf name_cmp (Excluded name) Unbounded nsecs range → range ≡ [] → (other : DomainName) → ¬ (IsLaterOwner records name other)
  none_later nsecs name range has of empty other h = false_true (sym (ap is_some (of.5 empty other (h.after, tt))) ∙ has other ∙ h.owner)

  pub first_later : (nsecs : BTreeMap DomainName ℕ) (name : DomainName) {range rest : List (DomainName × ℕ)} {e : DomainName × ℕ} → HasNsecs records nsecs → IsRangeOf name_cmp (Excluded name) Unbounded nsecs range → range ≡ e ∷ rest → IsFirstLater records name e.0
  first_later nsecs name {range} {rest} {e} has of begins =
      let o = subst (IsRangeOf name_cmp (Excluded name) Unbounded nsecs) begins of in
      record {
        later = record { after = o.1.0.0; owner = sym (has e.0) ∙ ap is_some o.1.1 };
        first = λ other h before. not_both other e.0 before (o.2 other (h.after, tt) (has other ∙ h.owner));
      }

  -- neither of two first names is before the other
  one_first : (name a b : DomainName) → IsFirstLater records name a → IsFirstLater records name b → name_eq a b ≡ true
  one_first name a b h k = by_order (name_cmp a b) refl where
    by_order : (o : Ordering) → name_cmp a b ≡ o → name_eq a b ≡ true
    by_order Less e = absurd (k.first a h.later e)
    by_order Equal e = ap is_eq e
    by_order Greater e = absurd (h.first b k.later (name_cmp_total.antisymm b a ∙ ap ordering_reverse e))

module _ (zone : CheckedZone) where
  pub next_is : (name next later : DomainName) (b : Bool) → IsFirstLater zone.records name later → b ≡ name_eq next later → IsTrue b ↔ IsNext zone name next
  next_is name next later b h e = (
    λ is. inl (first_later_alike zone.records name later name next (same name) (same_back next later (same_from_eq next later (sym e ∙ is))) h),
    λ is. e ∙ elim is [ inl f ↦ one_first zone.records name next later f h | inr top ↦ absurd (top.1 later h.later) ],
  )

  pub apex_is : (name next : DomainName) (b : Bool) → ((other : DomainName) → ¬ (IsLaterOwner zone.records name other)) → b ≡ name_eq next zone.origin → IsTrue b ↔ IsNext zone name next
  apex_is name next b none e = (
    λ is. inr (same_from_eq next zone.origin (sym e ∙ is), none),
    λ is. e ∙ elim is [ inl f ↦ absurd (none next f.later) | inr top ↦ eq_from_same next zone.origin top.0 ],
  )

  pub next_alike : (a c next : DomainName) → SameName a c → IsNext zone a next → IsNext zone c next
  next_alike a c next s h = elim h [
    | inl f ↦ inl (first_later_alike zone.records a next c next s (same next) f)
    | inr top ↦ inr (top.0, none_alike zone.records a c s top.1)
  ]

  pub next_lower : (name next : DomainName) → IsNext zone (lower_name name) next ↔ IsNext zone name next
  next_lower name next = (next_alike (lower_name name) name next (lower_same name), next_alike name (lower_name name) next (same_back (lower_name name) name (lower_same name)))
