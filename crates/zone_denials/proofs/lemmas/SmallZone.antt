-- The small zone is chained.
use Rattle.std.proofs.Common.{◌≡◌, ℕ, true, [], ◌∷◌, length, inl, refl, ap, subst, arith}
use Rattle.std.specs.Prelude.{◌↔◌}
use Rattle.std.specs.List.{AllByRecursion, Contains}
use Rattle.std.proofs.lemmas.List.Elements.{All-contains, All-from_recursion}
use Rattle.wire_names.specs.rr.domain.DomainName.{DomainName}
use Rattle.wire_names.specs.rr.domain.NameOrder.{Encloses, SameName}
use Rattle.wire_messages.specs.declared.rr.rr_key.RrKey.{RrKey}
use Rattle.zone_denials.specs.Nsec.{Nsec}
use Rattle.zone_denials.specs.SignedZone.{HasSet, IsLinked}
use Rattle.zone_denials.specs.WorkedSignedZone.{SmallZoneIsChained, at_host, at_top, host, key, small_chain, small_zone, top}

same : (n : DomainName) → SameName n n
same n = record { labels = refl; marks = refl }

over : (n : DomainName) → Encloses n.labels n.labels
over n = record { front = []; ends = refl }

not_top : SameName host top → ⊥
not_top s = omega (arith, ap length s.labels)

not_host : SameName top host → ⊥
not_host s = omega (arith, ap length s.labels)

of_keys : (P : RrKey → Type 0) → AllByRecursion P small_zone.keys → (k : RrKey) → Contains small_zone.keys k → P k
of_keys P all k held = All-contains P small_zone.keys k (All-from_recursion P small_zone.keys all) held

of_chain : (P : Nsec → Type 0) → AllByRecursion P small_chain → (n : Nsec) → Contains small_chain n → P n
of_chain P all n held = All-contains P small_chain n (All-from_recursion P small_chain all) held

linked_top : (t : ℕ) → IsLinked small_zone small_chain (key top t)
linked_top t = record { by = at_top; held = (0, omega arith, refl); encloses = over top; how = inl (same top) }

linked_host : (t : ℕ) → IsLinked small_zone small_chain (key host t)
linked_host t = record { by = at_host; held = (1, omega arith, refl); encloses = over host; how = inl (same host) }

set_at : (n : DomainName) (t i : ℕ) → Contains small_zone.keys (key n t) → HasSet small_zone n t
set_at n t i held = record { key = key n t; held = held; named = same n; typed = refl }

top_set : (t : ℕ) → Contains (2 ∷ 6 ∷ 47 ∷ []) t → HasSet small_zone top t
top_set t x = All-contains (HasSet small_zone top) (2 ∷ 6 ∷ 47 ∷ []) t (All-from_recursion (HasSet small_zone top) (2 ∷ 6 ∷ 47 ∷ []) (set_at top 2 0 (0, omega arith, refl), (set_at top 6 1 (1, omega arith, refl), (set_at top 47 2 (2, omega arith, refl), tt)))) x

host_set : (t : ℕ) → Contains (1 ∷ 47 ∷ []) t → HasSet small_zone host t
host_set t x = All-contains (HasSet small_zone host) (1 ∷ 47 ∷ []) t (All-from_recursion (HasSet small_zone host) (1 ∷ 47 ∷ []) (set_at host 1 3 (3, omega arith, refl), (set_at host 47 4 (4, omega arith, refl), tt))) x

top_type : (k : RrKey) → Contains small_zone.keys k → SameName k.name top → Contains (2 ∷ 6 ∷ 47 ∷ []) k.record_type
top_type = of_keys (λ k. SameName k.name top → Contains (2 ∷ 6 ∷ 47 ∷ []) k.record_type)
    (λ s. (0, omega arith, refl), (λ s. (1, omega arith, refl), (λ s. (2, omega arith, refl), (λ s. absurd (not_top s), (λ s. absurd (not_top s), tt)))))

host_type : (k : RrKey) → Contains small_zone.keys k → SameName k.name host → Contains (1 ∷ 47 ∷ []) k.record_type
host_type = of_keys (λ k. SameName k.name host → Contains (1 ∷ 47 ∷ []) k.record_type)
    (λ s. absurd (not_host s), (λ s. absurd (not_host s), (λ s. absurd (not_host s), (λ s. (0, omega arith, refl), (λ s. (1, omega arith, refl), tt)))))

types_of : (n : Nsec) → Contains small_chain n → (t : ℕ) → Contains n.types t ↔ HasSet small_zone n.owner t
types_of = of_chain (λ n. (t : ℕ) → Contains n.types t ↔ HasSet small_zone n.owner t) (
  λ t. (top_set t, λ h. subst (Contains {X = ℕ} (2 ∷ 6 ∷ 47 ∷ [])) h.typed (top_type h.key h.held h.named)),
  (λ t. (host_set t, λ h. subst (Contains {X = ℕ} (1 ∷ 47 ∷ [])) h.typed (host_type h.key h.held h.named)), tt),
)

no_soa : HasSet small_zone host 6 → ⊥
no_soa h = refuted (subst (Contains {X = ℕ} (1 ∷ 47 ∷ [])) h.typed (host_type h.key h.held h.named)) where
  refuted : Contains {X = ℕ} (1 ∷ 47 ∷ []) 6 → ⊥
  refuted x = All-contains (λ n. n ≡ 6 → ⊥) (1 ∷ 47 ∷ []) 6 (All-from_recursion (λ n. n ≡ 6 → ⊥) (1 ∷ 47 ∷ []) (λ e. omega (arith, e), (λ e. omega (arith, e), tt))) x refl

pub small_zone_is_chained : SmallZoneIsChained
small_zone_is_chained = record {
  is_chain = record {
    qualified = All-from_recursion (λ (n : Nsec). n.owner.is_fqdn ≡ true) small_chain (refl, (refl, tt));
    ascending = ((refl, tt), (tt, tt));
    linked = (same host, (same top, tt));
    top = same top;
  };
  complete = of_keys (IsLinked small_zone small_chain) (linked_top 2, (linked_top 6, (linked_top 47, (linked_host 1, (linked_host 47, tt)))));
  owners = of_chain (λ n. HasSet small_zone n.owner 47) (set_at top 47 2 (2, omega arith, refl), (set_at host 47 4 (4, omega arith, refl), tt));
  types = λ n t held listed. types_of n held t;
  apex = of_chain (λ n. HasSet small_zone n.owner 6 ↔ SameName n.owner top)
      ((λ h. same top, λ s. set_at top 6 1 (1, omega arith, refl)), ((λ h. absurd (no_soa h), λ s. absurd (not_top s)), tt));
}
