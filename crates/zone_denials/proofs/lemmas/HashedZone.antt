-- The small zone with NSEC3 records is chained.
use Rattle.std.proofs.Common.{◌≡◌, ◌++◌, ℕ, ◌<◌, List, [], ◌∷◌, drop, length, length-append, inl, inr, refl, sym, ap, subst, ◌∙◌, arith}
use Rattle.std.specs.Prelude.{◌⊎◌, ◌↔◌}
use Rattle.std.specs.List.{AllByRecursion, Contains}
use Rattle.std.proofs.lemmas.List.Elements.{All-contains, All-from_recursion}
use Rattle.wire_names.specs.rr.domain.DomainName.{DomainName}
use Rattle.wire_names.specs.rr.domain.NameOrder.{Encloses, SameName, lower_labels}
use Rattle.wire_messages.specs.declared.rr.rr_key.RrKey.{RrKey}
use Rattle.zone_denials.proofs.lemmas.EnclosedBetween.{same_back}
use Rattle.zone_denials.proofs.lemmas.Nsec3Chains.{hash_alike, not_itself}
use Rattle.zone_denials.proofs.lemmas.SignedZones.{set_same}
use Rattle.zone_denials.specs.Nsec3.{Hashing, IsBelow, Nsec3, hash_of}
use Rattle.zone_denials.specs.Nsec3Chain.{IsHashed}
use Rattle.zone_denials.specs.SignedZone.{Exists, HasSet}
use Rattle.zone_denials.specs.SignedZone3.{IsIn, StandsFor}
use Rattle.zone_denials.specs.WorkedSignedZone.{HashedZoneIsChained, hashed_zone, host, key, of_host, of_top, top}

same : (n : DomainName) → SameName n n
same n = record { labels = refl; marks = refl }

of_keys : (P : RrKey → Type 0) → AllByRecursion P hashed_zone.keys → (k : RrKey) → Contains hashed_zone.keys k → P k
of_keys P all k held = All-contains P hashed_zone.keys k (All-from_recursion P hashed_zone.keys all) held

not_top : SameName host top → ⊥
not_top s = omega (arith, ap length s.labels)

not_host : SameName top host → ⊥
not_host s = omega (arith, ap length s.labels)

-- a name of the zone that exists is one of the two
abbrev IsOne : DomainName → Type 0
IsOne name = (lower_labels name.labels ≡ lower_labels top.labels) ⊎ (lower_labels name.labels ≡ lower_labels host.labels)

end_of_top : (front ls : List (List ℕ)) → lower_labels top.labels ≡ front ++ ls → 0 < length ls → ls ≡ lower_labels top.labels
end_of_top [] ls e some = sym e
end_of_top (f ∷ fs) ls e some = absurd (omega (arith, ap length e, length-append fs ls, some))

end_of_host : (front ls : List (List ℕ)) → lower_labels host.labels ≡ front ++ ls → 0 < length ls → (ls ≡ lower_labels top.labels) ⊎ (ls ≡ lower_labels host.labels)
end_of_host [] ls e some = inr (sym e)
end_of_host (f ∷ []) ls e some = inl (sym (ap (drop 1) e))
end_of_host (f ∷ g ∷ fs) ls e some = absurd (omega (arith, ap length e, length-append fs ls, some))

is_one : (name : DomainName) → IsIn hashed_zone name → Exists hashed_zone name → IsOne name
is_one name inside x = of_keys (λ k. Encloses name.labels k.name.labels → IsOne name) (by_top, (by_top, (by_host, tt))) x.owner x.held x.at_or_below where
  some : 0 < length (lower_labels name.labels)
  some = omega (arith, ap length inside.within.ends, length-append inside.within.front (lower_labels top.labels))

  by_top : Encloses name.labels top.labels → IsOne name
  by_top e = inl (end_of_top e.front (lower_labels name.labels) e.ends some)

  by_host : Encloses name.labels host.labels → IsOne name
  by_host e = end_of_host e.front (lower_labels name.labels) e.ends some

set_at : (n : DomainName) (t : ℕ) → Contains hashed_zone.keys (key n t) → HasSet hashed_zone n t
set_at n t held = record { key = key n t; held = held; named = same n; typed = refl }

top_set : (t : ℕ) → Contains (2 ∷ 6 ∷ []) t → HasSet hashed_zone top t
top_set t x = All-contains (HasSet hashed_zone top) (2 ∷ 6 ∷ []) t (All-from_recursion (HasSet hashed_zone top) (2 ∷ 6 ∷ []) (set_at top 2 (0, omega arith, refl), (set_at top 6 (1, omega arith, refl), tt))) x

host_set : (t : ℕ) → Contains (1 ∷ []) t → HasSet hashed_zone host t
host_set t x = All-contains (HasSet hashed_zone host) (1 ∷ []) t (All-from_recursion (HasSet hashed_zone host) (1 ∷ []) (set_at host 1 (2, omega arith, refl), tt)) x

top_type : (k : RrKey) → Contains hashed_zone.keys k → SameName k.name top → Contains (2 ∷ 6 ∷ []) k.record_type
top_type = of_keys (λ k. SameName k.name top → Contains (2 ∷ 6 ∷ []) k.record_type) (λ s. (0, omega arith, refl), (λ s. (1, omega arith, refl), (λ s. absurd (not_top s), tt)))

host_type : (k : RrKey) → Contains hashed_zone.keys k → SameName k.name host → Contains (1 ∷ []) k.record_type
host_type = of_keys (λ k. SameName k.name host → Contains (1 ∷ []) k.record_type) (λ s. absurd (not_host s), (λ s. absurd (not_host s), (λ s. (0, omega arith, refl), tt)))

soa_at : (k : RrKey) → Contains hashed_zone.keys k → k.record_type ≡ 6 → SameName k.name top
soa_at = of_keys (λ k. k.record_type ≡ 6 → SameName k.name top) (λ e. same top, (λ e. same top, (λ e. absurd (omega (arith, e)), tt)))

top_is : (name : DomainName) (t : ℕ) → SameName name top → Contains (2 ∷ 6 ∷ []) t ↔ HasSet hashed_zone name t
top_is name t s = (
  λ x. set_same hashed_zone top name t (same_back name top s) (top_set t x),
  λ h. let g = set_same hashed_zone name top t s h in subst (Contains {X = ℕ} (2 ∷ 6 ∷ [])) g.typed (top_type g.key g.held g.named),
)

host_is : (name : DomainName) (t : ℕ) → SameName name host → Contains (1 ∷ []) t ↔ HasSet hashed_zone name t
host_is name t s = (
  λ x. set_same hashed_zone host name t (same_back name host s) (host_set t x),
  λ h. let g = set_same hashed_zone name host t s h in subst (Contains {X = ℕ} (1 ∷ [])) g.typed (host_type g.key g.held g.named),
)

module _ (by : Hashing) (below : IsBelow (hash_of by top) (hash_of by host)) where
  abbrev chain : List Nsec3
  chain = of_top by ∷ of_host by ∷ []

  of_chain : (P : Nsec3 → Type 0) → P (of_top by) → P (of_host by) → (n : Nsec3) → Contains chain n → P n
  of_chain P p q n held = All-contains P chain n (All-from_recursion P chain (p, (q, tt))) held

  differ : hash_of by top ≡ hash_of by host → ⊥
  differ e = not_itself (hash_of by host) (subst (λ (h : List ℕ). IsBelow h (hash_of by host)) e below)

  complete : (name : DomainName) → IsIn hashed_zone name → Exists hashed_zone name → IsHashed by chain name
  complete name inside x = elim (is_one name inside x) [
    | inl e ↦ let r : IsHashed by chain name = record { at = of_top by; held = (0, omega arith, refl); is = hash_alike by top name (sym e) } in r
    | inr e ↦ let r : IsHashed by chain name = record { at = of_host by; held = (1, omega arith, refl); is = hash_alike by host name (sym e) } in r
  ]

  types_top : (name : DomainName) (t : ℕ) → IsIn hashed_zone name → hash_of by top ≡ hash_of by name → Exists hashed_zone name → Contains (2 ∷ 6 ∷ []) t ↔ HasSet hashed_zone name t
  types_top name t inside is x = elim (is_one name inside x) [
    | inl e ↦ top_is name t (record { labels = e; marks = inside.qualified })
    | inr e ↦ absurd (differ (is ∙ hash_alike by name host e))
  ]

  types_host : (name : DomainName) (t : ℕ) → IsIn hashed_zone name → hash_of by host ≡ hash_of by name → Exists hashed_zone name → Contains (1 ∷ []) t ↔ HasSet hashed_zone name t
  types_host name t inside is x = elim (is_one name inside x) [
    | inl e ↦ absurd (differ (sym (is ∙ hash_alike by name top e)))
    | inr e ↦ host_is name t (record { labels = e; marks = inside.qualified })
  ]

pub hashed_zone_is_chained : HashedZoneIsChained
hashed_zone_is_chained by below = record {
  is_chain = record { ascending = ((below, tt), (tt, tt)); linked = (refl, (refl, tt)) };
  complete = λ name x of_zone. inl (complete by below name of_zone.inside x);
  names = of_chain by below (StandsFor hashed_zone by)
      (record { name = top; exists = record { owner = key top 2; held = (0, omega arith, refl); at_or_below = record { front = []; ends = refl } }; is = refl })
      (record { name = host; exists = record { owner = key host 1; held = (2, omega arith, refl); at_or_below = record { front = []; ends = refl } }; is = refl });
  types = λ n name t held inside is x listed. of_chain by below (λ n. n.hash ≡ hash_of by name → Contains n.types t ↔ HasSet hashed_zone name t) (λ is. types_top by below name t inside is x) (λ is. types_host by below name t inside is x) n held is;
  apex = λ name. (λ h. let at = soa_at h.key h.held h.typed in record { labels = sym h.named.labels ∙ at.labels; marks = sym h.named.marks ∙ at.marks }, λ s. set_same hashed_zone top name 6 (same_back name top s) (set_at top 6 (1, omega arith, refl)));
}
