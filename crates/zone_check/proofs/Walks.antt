-- Walks from a name up, label by label.
use Rattle.std.proofs.Common.{◌≡◌, ◌+◌, ◌<◌, ◌≤◌, ◌==◌, Bool, true, false, ℕ, List, [], ◌∷◌, length, drop, refl, sym, ap, ◌∙◌, subst, arith, length-drop, ◌-◌, ◌⊎◌, inl, inr}
use Rattle.std.proofs.lemmas.Bool.{eqb-true}
use Rattle.std.proofs.lemmas.Bool.Decides.{nat_tests}
use Rattle.std.proofs.lemmas.List.{drop-drop, length-map}
use Rattle.wire_names.specs.rr.domain.DomainName.{DomainName, wire_form}
use Rattle.wire_names.specs.rr.domain.NameOrder.{lower_label, lower_name}
use Rattle.zone_check.specs.CheckedZones.{ancestor}

-- so many labels were taken off, and of no name on the way the fact holds
pub record Walk (Is : DomainName → Type 0) (name here : DomainName) : Type 0 where
  pub count : ℕ
  pub at : here ≡ ancestor (lower_name name) count
  pub within : count ≤ length name.labels
  pub none : (k : ℕ) → 0 < k → k ≤ count → ¬ (Is (ancestor (lower_name name) k))

-- the fact holds of a name above
pub record Reached (Is : DomainName → Type 0) (name : DomainName) : Type 0 where
  pub count : ℕ
  pub above : 0 < count
  pub within : count ≤ length name.labels
  pub holds : Is (ancestor (lower_name name) count)

-- whether the bytes of some labels are none says whether the labels are
not_empty : (ls : List (List ℕ)) → (length (wire_form ls) == 0) ≡ false → 0 < length ls
not_empty [] h = absurd (cc)
not_empty (l ∷ ls) h = omega arith

empty : (ls : List (List ℕ)) → (length (wire_form ls) == 0) ≡ true → length ls ≡ 0
empty [] h = refl
empty (l ∷ ls) h = absurd (omega (arith, eqb-true _ _ h))

pub not_empty_by : (ls : List (List ℕ)) (bytes : List ℕ) (e : Bool) → bytes ≡ wire_form ls → e ≡ (length bytes == 0) → e ≡ false → 0 < length ls
not_empty_by ls bytes e is tested not = not_empty ls (ap (λ xs. length xs == 0) (sym is) ∙ sym tested ∙ not)

pub empty_by : (ls : List (List ℕ)) (bytes : List ℕ) (e : Bool) → bytes ≡ wire_form ls → e ≡ (length bytes == 0) → e ≡ true → length ls ≡ 0
empty_by ls bytes e is tested so = empty ls (ap (λ xs. length xs == 0) (sym is) ∙ sym tested ∙ so)

pub refused : (b : Bool) → b ≡ true → b ≡ false → ⊥
refused b so not = cc

le-or-above : (a b : ℕ) → (a ≤ b) ⊎ (b < a)
le-or-above a b = grind (arith, nat_tests)

module _ (Is : DomainName → Type 0) (name : DomainName) where
  pub start : Walk Is name (lower_name name)
  start = record { count = 0; at = refl; within = omega arith; none = λ k some most. absurd (omega arith) }

  size : (here : DomainName) (w : Walk Is name here) → length here.labels ≡ length name.labels - w.count
  size here w = ap (λ (n : DomainName). length n.labels) w.at ∙ length-drop w.count (lower_name name).labels ∙ ap (λ n. n - w.count) (length-map name.labels lower_label)

  one_more : (here : DomainName) (w : Walk Is name here) → record here { labels = drop 1 here.labels } ≡ ancestor (lower_name name) (w.count + 1)
  one_more here w =
      ap (λ (n : DomainName). let m : DomainName = record n { labels = drop 1 n.labels } in m) w.at
      ∙ ap (λ ls. let m : DomainName = record { labels = ls; is_fqdn = name.is_fqdn } in m) (drop-drop 1 w.count (lower_name name).labels)

  pub next : (here : DomainName) (w : Walk Is name here) → 0 < length here.labels → ¬ (Is (record here { labels = drop 1 here.labels })) → Walk Is name (record here { labels = drop 1 here.labels })
  next here w some not = record {
    count = w.count + 1;
    at = one_more here w;
    within = omega (arith, size here w);
    none = λ k above most. elim (le-or-above k w.count) [ inl low ↦ w.none k above low | inr high ↦ let last : k ≡ w.count + 1 = omega arith in λ is. not (subst Is (ap (λ n. ancestor (lower_name name) n) last ∙ sym (one_more here w)) is) ];
  }

  pub reached : (here : DomainName) (w : Walk Is name here) → 0 < length here.labels → Is (record here { labels = drop 1 here.labels }) → Reached Is name
  reached here w some is = record { count = w.count + 1; above = omega arith; within = omega (arith, size here w); holds = subst Is (one_more here w) is }

  pub nowhere : (here : DomainName) (w : Walk Is name here) → length here.labels ≡ 0 → (k : ℕ) → 0 < k → k ≤ length name.labels → ¬ (Is (ancestor (lower_name name) k))
  nowhere here w empty k above most = w.none k above (omega (arith, size here w))
