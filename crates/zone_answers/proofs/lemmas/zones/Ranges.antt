-- The entries of a map from a key on.
use Rattle.std.proofs.Common.{◌≡◌, Bool, true, false, cond, ◌&&◌, List, [], ◌∷◌, ◌++◌, filter, Option, Some, None, refl, sym, ap, subst, ◌∙◌, arith}
use Rattle.std.specs.Prelude.{is_some, slice_get, slice_index_or, IfSome}
use Rattle.std.specs.List.{All, AllByRecursion, Contains}
use Rattle.std.specs.List.Sorted.{IsStrictlySortedBy}
use Rattle.std.specs.Map.{keys_of, lookup}
use Rattle.std.specs.BTreeMap.{BTreeMap, IsOrdered, get, is_at}
use Rattle.std.specs.BTreeMap.Range.{IsEntryInRange, IsLeBy, IsRangeOf, entries_between, range_contains}
use Rattle.std.specs.Cmp.{IsTotalOrder, alike_right}
use Rattle.std.specs.declared.cmp.Ordering.{Ordering}
use Rattle.std.specs.declared.cmp.Ordering.TheVariants.{Less, Equal, Greater}
use Rattle.std.specs.declared.ops.Bound.TheVariants.{Included, Unbounded}
use Rattle.std.specs.Ordering.{is_eq, is_gt, is_le, is_lt, ordering_reverse}
use Rattle.std.proofs.lemmas.List.Elements.{All-contains, All-filter, All-from_recursion, Contains-push}
use Rattle.std.proofs.lemmas.List.Kept.{IsStrictlySortedBy-filter}
use Rattle.std.proofs.lemmas.Map.Entries.{btree_map_get_place, lookup-filter-keys}
use Rattle.std.proofs.lemmas.Option.{slice_get-get_or}

pub le_of : (x : Ordering) → (is_le x && true) ≡ true → is_gt x ≡ false
le_of Less h = refl
le_of Equal h = refl
le_of Greater h = absurd cc

pub of_le : (x : Ordering) → is_gt x ≡ false → (is_le x && true) ≡ true
of_le Less h = refl
of_le Equal h = refl
of_le Greater h = absurd cc

tied : (x : Ordering) → is_eq x ≡ true → x ≡ Equal
tied Less h = absurd cc
tied Equal h = refl
tied Greater h = absurd cc

module _ {K : Type 0} {R : K → K → Ordering} (o : IsTotalOrder R) where
  back : (a b : K) (x : Ordering) → R a b ≡ x → R b a ≡ ordering_reverse x
  back a b x e = o.antisymm b a ∙ ap ordering_reverse e

  -- whether a key is not below the first
  abbrev passes : K → K → Bool
  passes first k = range_contains R (Included first) Unbounded k

  module _ {X : Type 0} where
    -- what is looked for is above what is below all keys
    above_step : (q k : K) (e : K × X) (es : List (K × X)) (b : Bool) → R k e.0 ≡ Less → (is_some (lookup (is_at (R q)) es) ≡ true → R k q ≡ Less) → is_eq (R q e.0) ≡ b
        → is_some (cond b (Some e.1) (lookup (is_at (R q)) es)) ≡ true → R k q ≡ Less
    above_step q k e es true below go is h = alike_right o q e.0 k (tied (R q e.0) is) ∙ below
    above_step q k e es false below go is h = go h

    above : (q k : K) (es : List (K × X)) → AllByRecursion (λ y. R k y ≡ Less) (keys_of es) → is_some (lookup (is_at (R q)) es) ≡ true → R k q ≡ Less
    above q k [] below held = absurd cc
    above q k (e ∷ es) below held = above_step q k e es (is_eq (R q e.0)) below.0 (above q k es below.1) refl held

    -- and not below the first
    least_step : (q : K) (e : K × X) (es : List (K × X)) (b : Bool) → AllByRecursion (λ y. R e.0 y ≡ Less) (keys_of es) → is_eq (R q e.0) ≡ b
        → is_some (cond b (Some e.1) (lookup (is_at (R q)) es)) ≡ true → IsLeBy R e.0 q
    least_step q e es true below is h = ap is_gt (back q e.0 Equal (tied (R q e.0) is))
    least_step q e es false below is h = ap is_gt (above q e.0 es below h)

    pub least : (q : K) (es : List (K × X)) → IsStrictlySortedBy R (keys_of es) → is_some (lookup (is_at (R q)) es) ≡ true → IfSome (slice_get es 0) (λ e. IsLeBy R e.0 q)
    unfolding IsStrictlySortedBy
    least q [] sorted held = tt
    least q (e ∷ es) sorted held = least_step q e es (is_eq (R q e.0)) sorted.0 refl held

    -- nor above the last
    of_last : (P : K → Type 0) (t : List (K × X)) (e : K × X) → AllByRecursion P (keys_of (t ++ e ∷ [])) → P e.0
    of_last P [] e all = all.0
    of_last P (x ∷ t) e all = of_last P t e all.1

    last_step : (q : K) (x e : K × X) (rest : Option X) (b : Bool) → (is_some rest ≡ true → is_lt (R e.0 q) ≡ false) → (R q x.0 ≡ Equal → is_lt (R e.0 q) ≡ false) → is_eq (R q x.0) ≡ b
        → is_some (cond b (Some x.1) rest) ≡ true → is_lt (R e.0 q) ≡ false
    last_step q x e rest true go here is h = here (tied (R q x.0) is)
    last_step q x e rest false go here is h = go h

    greatest : (q : K) (t : List (K × X)) (e : K × X) → IsStrictlySortedBy R (keys_of (t ++ e ∷ [])) → is_some (lookup (is_at (R q)) (t ++ e ∷ [])) ≡ true → is_lt (R e.0 q) ≡ false
    unfolding IsStrictlySortedBy
    greatest q [] e sorted held = last_step q e e None (is_eq (R q e.0)) (λ h. absurd cc) (λ same. ap is_lt (back q e.0 Equal same)) refl held
    greatest q (x ∷ t) e sorted held =
        last_step q x e (lookup (is_at (R q)) (t ++ e ∷ [])) (is_eq (R q x.0)) (greatest q t e sorted.1)
        (λ same. ap is_lt (alike_right o q x.0 e.0 same ∙ back x.0 e.0 Less (of_last (λ y. R x.0 y ≡ Less) t e sorted.0))) refl held

    -- what is looked for is among those from a key on, if it is not below it
    pub held_there : (first q : K) (es : List (K × X)) → IsLeBy R first q → lookup (is_at (R q)) (entries_between R (Included first) Unbounded es) ≡ lookup (is_at (R q)) es
    held_there first q es h = lookup-filter-keys (is_at (R q)) (passes first) true (λ k t. of_le (R first k) (ap is_gt (sym (alike_right o q k first (tied (R q k) t))) ∙ h)) es

    kept : (first : K) (b : Bool) (e : K × X) (rest : List (K × X)) → passes first e.0 ≡ b → AllByRecursion (λ (x : K × X). IsLeBy R first x.0) rest → AllByRecursion (λ (x : K × X). IsLeBy R first x.0) (cond b (e ∷ rest) rest)
    kept first true e rest is all = (le_of (R first e.0) is, all)
    kept first false e rest is all = all

    pub all_from : (first : K) (es : List (K × X)) → AllByRecursion (λ (x : K × X). IsLeBy R first x.0) (entries_between R (Included first) Unbounded es)
    all_from first [] = tt
    all_from first (e ∷ es) = kept first (passes first e.0) e (entries_between R (Included first) Unbounded es) refl (all_from first es)

    key_step : (b : Bool) (e : K × X) (es : List (K × X)) (ks : List K) → keys_of es ≡ ks → keys_of (cond b (e ∷ es) es) ≡ cond b (e.0 ∷ ks) ks
    key_step true e es ks is = ap (λ r. e.0 ∷ r) is
    key_step false e es ks is = is

    pub keys_there : (first : K) (es : List (K × X)) → keys_of (entries_between R (Included first) Unbounded es) ≡ filter (passes first) (keys_of es)
    keys_there first [] = refl
    keys_there first (e ∷ es) = key_step (passes first e.0) e (entries_between R (Included first) Unbounded es) (filter (passes first) (keys_of es)) (keys_there first es)

  module _ {X : Type 0} (first : K) (m : BTreeMap K X) (sorted : IsOrdered R m) (r : List (K × X)) (is : r ≡ entries_between R (Included first) Unbounded m.entries) where
    found : All (λ (e : K × X). get R m e.0 ≡ Some e.1) m.entries
    found k d lt = btree_map_get_place o m k (slice_index_or m.entries k d).0 (slice_index_or m.entries k d).1 sorted (slice_get-get_or m.entries k d lt)

    each : All (IsEntryInRange R (Included first) Unbounded m) (entries_between R (Included first) Unbounded m.entries)
    each k d lt = (
      (All-from_recursion (λ (e : K × X). IsLeBy R first e.0) (entries_between R (Included first) Unbounded m.entries) (all_from first m.entries) k d lt, tt),
      All-filter (λ (e : K × X). passes first e.0) (λ (e : K × X). get R m e.0 ≡ Some e.1) m.entries found k d lt,
    )

    all_in : All (IsEntryInRange R (Included first) Unbounded m) r
    all_in = subst (All (IsEntryInRange R (Included first) Unbounded m)) (sym is) each

    in_order : IsStrictlySortedBy R (keys_of r)
    in_order = subst (IsStrictlySortedBy R) (sym (ap keys_of is ∙ keys_there first m.entries)) (IsStrictlySortedBy-filter R (passes first) (keys_of m.entries) sorted)

    there : (q : K) → IsLeBy R first q → lookup (is_at (R q)) r ≡ get R m q
    there q h = ap (lookup (is_at (R q))) is ∙ held_there first q m.entries h

    of_first : (P : K × X → Type 0) (es : List (K × X)) → All P es → IfSome (slice_get es 0) P
    of_first P [] all = tt
    of_first P (e ∷ es) all = all 0 e (omega arith)

    -- They are what a map gives for the range.
    pub is_range : IsRangeOf R (Included first) Unbounded m r
    is_range = (
      all_in,
      of_first (IsEntryInRange R (Included first) Unbounded m) r all_in,
      λ q h held. least q r in_order (ap is_some (there q h.0) ∙ held),
      λ e t e-is. All-contains (IsEntryInRange R (Included first) Unbounded m) r e all_in (subst (λ es. Contains es e) (sym e-is) (Contains-push t e)),
      λ e t e-is q h held. greatest q t e (subst (λ es. IsStrictlySortedBy R (keys_of es)) e-is in_order) (ap (λ es. is_some (lookup (is_at (R q)) es)) (sym e-is) ∙ ap is_some (there q h.0) ∙ held),
      λ none q h. sym (there q h.0) ∙ ap (lookup (is_at (R q))) none,
    )
