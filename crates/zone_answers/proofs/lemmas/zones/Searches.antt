-- A search by halves among keys in order.
use Rattle.std.proofs.Common.{◌≡◌, ℕ, zero, suc, true, false, cond, ◌&&◌, List, [], ◌∷◌, take, drop, filter, Some, refl, sym, ap, subst, ◌∙◌}
use Rattle.std.specs.Prelude.{slice_get}
use Rattle.std.specs.List.{AllByRecursion}
use Rattle.std.specs.List.Sorted.{IsStrictlySortedBy}
use Rattle.std.specs.Map.{keys_of}
use Rattle.std.specs.BTreeMap.Range.{entries_between, range_contains}
use Rattle.std.specs.Cmp.{IsTotalOrder}
use Rattle.std.specs.declared.cmp.Ordering.{Ordering}
use Rattle.std.specs.declared.cmp.Ordering.TheVariants.{Less, Equal, Greater}
use Rattle.std.specs.declared.ops.Bound.TheVariants.{Included, Unbounded}
use Rattle.std.specs.Ordering.{is_le, is_lt, ordering_reverse}

some_same : {A : Type 0} {x y : A} → Some x ≡ Some y → x ≡ y
some_same e = cc

module _ {K : Type 0} {R : K → K → Ordering} (o : IsTotalOrder R) (first : K) where
  below_first : (k : K) → R k first ≡ Less → range_contains R (Included first) Unbounded k ≡ false
  below_first k h = ap (λ x. is_le x && true) (o.antisymm first k ∙ ap ordering_reverse h)

  turned : (x y : Ordering) → x ≡ ordering_reverse y → is_lt y ≡ false → (is_le x && true) ≡ true
  turned x Less e h = absurd cc
  turned x Equal e h = ap (λ z. is_le z && true) e
  turned x Greater e h = ap (λ z. is_le z && true) e

  from_first : (k : K) → is_lt (R k first) ≡ false → range_contains R (Included first) Unbounded k ≡ true
  from_first k h = turned (R first k) (R k first) (o.antisymm first k) h

  behind : (k y : K) (x : Ordering) → R first k ≡ x → (is_le x && true) ≡ true → R k y ≡ Less → R first y ≡ Less
  behind k y Less e h less = o.trans first k y e less
  behind k y Equal e h less = o.congr first k y e ∙ less
  behind k y Greater e h less = absurd cc

-- the keys are below the first
abbrev pub AreBelow : {K X : Type 0} → (K → K → Ordering) → K → List (K × X) → Type 0
AreBelow {K} {X} R first es = AllByRecursion (λ (e : K × X). range_contains R (Included first) Unbounded e.0 ≡ false) es

-- the keys are not
abbrev pub AreFrom : {K X : Type 0} → (K → K → Ordering) → K → List (K × X) → Type 0
AreFrom {K} {X} R first es = AllByRecursion (λ (e : K × X). range_contains R (Included first) Unbounded e.0 ≡ true) es

module _ {K X : Type 0} {R : K → K → Ordering} (o : IsTotalOrder R) (first : K) where
  at_place : (P : K → Type 0) (es : List (K × X)) (i : ℕ) (e : K × X) → AllByRecursion P (keys_of es) → slice_get es i ≡ Some e → P e.0
  at_place P [] i e all is = absurd cc
  at_place P (x ∷ es) zero e all is = subst (λ (y : K × X). P y.0) (some_same is) all.0
  at_place P (x ∷ es) (suc i) e all is = at_place P es i e all.1 is

  pub up_to : (es : List (K × X)) (i : ℕ) (e : K × X) → IsStrictlySortedBy R (keys_of es) → slice_get es i ≡ Some e → R e.0 first ≡ Less → AreBelow R first (take (suc i) es)
  unfolding IsStrictlySortedBy
  up_to [] i e sorted is h = absurd cc
  up_to (x ∷ es) zero e sorted is h = (below_first o first x.0 (ap (λ (y : K × X). R y.0 first) (some_same is) ∙ h), tt)
  up_to (x ∷ es) (suc i) e sorted is h = (below_first o first x.0 (o.trans x.0 e.0 first (at_place (λ y. R x.0 y ≡ Less) es i e sorted.0 is) h), up_to es i e sorted.1 is h)

  pub all_behind : (k : K) (es : List (K × X)) → range_contains R (Included first) Unbounded k ≡ true → AllByRecursion (λ y. R k y ≡ Less) (keys_of es) → AreFrom R first es
  all_behind k [] h all = tt
  all_behind k (e ∷ es) h all = (ap (λ x. is_le x && true) (behind o first k e.0 (R first k) refl h all.0), all_behind k es h all.1)

  pub on_from : (es : List (K × X)) (i : ℕ) (e : K × X) → IsStrictlySortedBy R (keys_of es) → slice_get es i ≡ Some e → is_lt (R e.0 first) ≡ false → AreFrom R first (drop i es)
  unfolding IsStrictlySortedBy
  on_from [] i e sorted is h = absurd cc
  on_from (x ∷ es) zero e sorted is h =
      let own = from_first o first x.0 (ap (λ (y : K × X). is_lt (R y.0 first)) (some_same is) ∙ h) in (own, all_behind x.0 es own sorted.0)
  on_from (x ∷ es) (suc i) e sorted is h = on_from es i e sorted.1 is h

  -- then they are those that a map gives from the key on
  pub found_place : (es : List (K × X)) (n : ℕ) → AreBelow R first (take n es) → AreFrom R first (drop n es) → drop n es ≡ entries_between R (Included first) Unbounded es
  found_place [] zero low high = refl
  found_place [] (suc n) low high = refl
  found_place (e ∷ es) zero low high = ap (λ b. cond b (e ∷ es) es) (sym high.0) ∙ ap (λ r. cond (range_contains R (Included first) Unbounded e.0) (e ∷ r) r) (found_place es zero tt high.1)
  found_place (e ∷ es) (suc n) low high = found_place es n low.1 high ∙ ap (λ b. cond b (e ∷ filter (λ x. range_contains R (Included first) Unbounded x.0) es) (filter (λ x. range_contains R (Included first) Unbounded x.0) es)) (sym low.0)
