-- In the order of keys, by name and then by type, the keys of one name stand together, behind the one of that name and
-- type 0.
use Rattle.std.proofs.Common.{◌≡◌, ℕ, Bool, true, false, cond, ◌&&◌, ◌||◌, List, [], ◌∷◌, filter, refl, sym, ap, ◌∙◌, arith}
use Rattle.std.specs.Prelude.{nat_lt, ◌==◌}
use Rattle.std.specs.List.{AllByRecursion, list_any}
use Rattle.std.specs.BTreeMap.Range.{entries_between}
use Rattle.std.specs.declared.ops.Bound.TheVariants.{Included, Unbounded}
use Rattle.std.specs.List.Sorted.{IsStrictlySortedBy}
use Rattle.std.specs.Map.{keys_of}
use Rattle.std.specs.Ordering.{is_eq, is_le, nat_cmp, ordering_then}
use Rattle.std.specs.Cmp.{alike_right}
use Rattle.std.specs.declared.cmp.Ordering.{Ordering}
use Rattle.std.specs.declared.cmp.Ordering.TheVariants.{Less, Equal, Greater}
use Rattle.std.proofs.lemmas.Bool.Decides.{nat_tests}
use Rattle.std.proofs.lemmas.List.Elements.{filter_agree}
use Rattle.wire_names.specs.rr.domain.NameOrder.{name_cmp, name_cmp_total}
use Rattle.hickory_base.specs.zone_store.ZoneSets.{has_name}
use Rattle.wire_messages.specs.rr.RrKeys.{key_cmp}
use Rattle.wire_messages.specs.declared.rr.rr_key.RrKey.{RrKey}
use Rattle.wire_messages.specs.contracts.rr.rr_key.RrKeyOrd.TheImpl as by_key

-- the order that is derived is by name, then by type
pub comparison-is : (a b : RrKey) → by_key.ghosts.cmp a b ≡ key_cmp a b
comparison-is a b = refl

-- no number is below 0
least_by_tests : (n : ℕ) (below same : Bool) → nat_lt 0 n ≡ below → (0 == n) ≡ same → is_le (cond below Less (cond same Equal Greater)) ≡ true
least_by_tests n true same e f = refl
least_by_tests n false true e f = refl
least_by_tests n false false e f = absurd (grind (arith, nat_tests))

zero_is_least : (n : ℕ) → is_le (nat_cmp 0 n) ≡ true
zero_is_least n = least_by_tests n (nat_lt 0 n) (0 == n) refl refl

then_from_zero : (o : Ordering) (n : ℕ) → is_le (ordering_then o (nat_cmp 0 n)) ≡ is_le o
then_from_zero Less n = refl
then_from_zero Equal n = zero_is_least n
then_from_zero Greater n = refl

-- a key is below the first of a name where its name is below
pub from_first : (first key : RrKey) → first.record_type ≡ 0 → is_le (key_cmp first key) ≡ is_le (name_cmp first.name key.name)
from_first first key e = rw e (then_from_zero (name_cmp first.name key.name) key.record_type)

-- names do not fall
name_above : (o c : Ordering) → ordering_then o c ≡ Less → is_le o ≡ true
name_above Less c e = refl
name_above Equal c e = refl
name_above Greater c e = absurd (cc)

above_by_names : (n k q : RrKey) (o : Ordering) → name_cmp n.name k.name ≡ Less → name_cmp k.name q.name ≡ o → is_le o ≡ true → name_cmp n.name q.name ≡ Less
above_by_names n k q Less e g h = name_cmp_total.trans n.name k.name q.name e g
above_by_names n k q Equal e g h = sym (alike_right name_cmp_total k.name q.name n.name g) ∙ e
above_by_names n k q Greater e g h = absurd (cc)

above_both : (n k q : RrKey) → name_cmp n.name k.name ≡ Less → key_cmp k q ≡ Less → name_cmp n.name q.name ≡ Less
above_both n k q e f = above_by_names n k q (name_cmp k.name q.name) e refl (name_above _ _ f)

-- the entries from the front on that pass
abbrev pub while_of : {X : Type 0} → (X → Bool) → List X → List X
while_of test [] = []
while_of test (x ∷ xs) = cond (test x) (x ∷ while_of test xs) []

abbrev pub first_is : {X : Type 0} → (X → Bool) → List X → Bool
first_is test [] = false
first_is test (x ∷ xs) = test x

abbrev pub is_filled : {X : Type 0} → List X → Bool
is_filled [] = false
is_filled (x ∷ xs) = true

any_step : {X : Type 0} (b : Bool) (x : X) (some : Bool) (xs : List X) → some ≡ is_filled xs → b || some ≡ is_filled (cond b (x ∷ xs) xs)
any_step true x some xs e = refl
any_step false x some xs e = e

pub any_filtered : {X : Type 0} (p : X → Bool) (xs : List X) → list_any p xs ≡ is_filled (filter p xs)
any_filtered p [] = refl
any_filtered p (x ∷ xs) = any_step (p x) x _ _ (any_filtered p xs)

filled_step : {X : Type 0} (b : Bool) (x : X) (xs : List X) → is_filled (cond b (x ∷ xs) []) ≡ b
filled_step true x xs = refl
filled_step false x xs = refl

first_passes : {X : Type 0} (p : X → Bool) (xs : List X) → is_filled (while_of p xs) ≡ first_is p xs
first_passes p [] = refl
first_passes p (x ∷ xs) = filled_step (p x) x _

and_true : (b : Bool) → (b && true) ≡ b
and_true true = refl
and_true false = refl

module _ {X : Type 0} (first : RrKey) where
  abbrev pub of_name : RrKey × X → Bool
  of_name e = has_name first.name e.0

  abbrev not_below : RrKey × X → Bool
  not_below e = is_le (name_cmp first.name e.0.name)

  -- behind a key of a greater name there is none of this one
  none_above : (k : RrKey) (es : List (RrKey × X)) → name_cmp first.name k.name ≡ Less → AllByRecursion (λ q. key_cmp k q ≡ Less) (keys_of es) → filter of_name es ≡ []
  none_above k [] e above = refl
  none_above k (q ∷ es) e above =
      let less : name_cmp first.name q.0.name ≡ Less = above_both first k q.0 e above.0 in
      rw less (none_above k es e above.1)

  front_step : (o : Ordering) (q : RrKey × X) (es : List (RrKey × X)) → name_cmp first.name q.0.name ≡ o → (o ≡ Less → filter of_name es ≡ [])
      → filter of_name es ≡ while_of of_name (filter not_below es)
      → cond (is_eq o) (q ∷ filter of_name es) (filter of_name es) ≡ while_of of_name (cond (is_le o) (q ∷ filter not_below es) (filter not_below es))
  front_step Less q es e none same = rw e (none refl)
  front_step Equal q es e none same = rw e (ap (λ rest. q ∷ rest) same)
  front_step Greater q es e none same = same

  -- the entries of a name are the first of those that are not below it
  of_name_in_front : (es : List (RrKey × X)) → IsStrictlySortedBy key_cmp (keys_of es) → filter of_name es ≡ while_of of_name (filter not_below es)
  unfolding IsStrictlySortedBy
  of_name_in_front [] sorted = refl
  of_name_in_front (q ∷ es) sorted = front_step (name_cmp first.name q.0.name) q es refl (λ less. none_above q.0 es less sorted.0) (of_name_in_front es sorted.1)

  -- those entries as a map gives them, from the first key of the name on
  pub from_first_on : (es range : List (RrKey × X)) → first.record_type ≡ 0 → IsStrictlySortedBy key_cmp (keys_of es)
      → range ≡ entries_between key_cmp (Included first) Unbounded es → filter of_name es ≡ while_of of_name range
  from_first_on es range e sorted is =
      of_name_in_front es sorted
      ∙ ap (while_of of_name) (filter_agree not_below (λ q. is_le (key_cmp first q.0) && true) (λ q. sym (and_true _ ∙ from_first first q.0 e)) es ∙ sym is)

  -- the name is in use where the first of them has it
  pub in_use_by_first : (es range : List (RrKey × X)) → first.record_type ≡ 0 → IsStrictlySortedBy key_cmp (keys_of es)
      → range ≡ entries_between key_cmp (Included first) Unbounded es → first_is of_name range ≡ list_any of_name es
  in_use_by_first es range e sorted is = sym (any_filtered of_name es ∙ ap is_filled (from_first_on es range e sorted is) ∙ first_passes of_name range)
