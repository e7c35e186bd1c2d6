-- The last NSEC key of a range of a map is that of a name.
use Rattle.std.proofs.Common.{◌≡◌, ℕ, true, false, not, Bool, cond, List, [], ◌∷◌, ◌++◌, filter, inl, inr, refl, sym, ap, subst, ◌∙◌, append_assoc, arith}
use Rattle.std.specs.List.{AllByRecursion, Contains}
use Rattle.std.specs.List.Sorted.{IsStrictlySortedBy}
use Rattle.std.specs.Map.{keys_of}
use Rattle.std.specs.BTreeMap.Range.{entries_between, range_contains}
use Rattle.std.specs.Ordering.{is_gt, is_lt, nat_cmp, ordering_reverse, ordering_then}
use Rattle.std.specs.Cmp.{nat_cmp_total, tied_itself}
use Rattle.std.specs.declared.cmp.Ordering.{Ordering}
use Rattle.std.specs.declared.cmp.Ordering.TheVariants.{Less, Equal, Greater}
use Rattle.std.specs.declared.ops.Bound.TheVariants.{Included, Unbounded}
use Rattle.std.proofs.lemmas.List.Elements.{All-contains, All-contains_itself, All-filter, All-from_recursion, Contains-append_cases, Contains-append_right, filter_passes}
use Rattle.std.proofs.lemmas.List.Kept.{IsStrictlySortedBy-filter}
use Rattle.wire_names.specs.rr.domain.NameOrder.{name_cmp, name_cmp_total}
use Rattle.wire_messages.specs.Numbers.{type_nsec}
use Rattle.wire_messages.specs.rr.RrKeys.{key_cmp}
use Rattle.wire_messages.specs.declared.rr.rr_key.RrKey.{RrKey}
use Rattle.hickory_base.proofs.lemmas.zone_store.ZoneByName.{key_total}
use Rattle.hickory_base.specs.zone_store.ZoneSets.{sets_of, shared_sets}
use Rattle.zone_answers.proofs.lemmas.zones.Owners.{names_up_to}
use Rattle.zone_answers.specs.representation.KeysBeside.{Entry, SharedMap}
use Rattle.zone_denials.proofs.lemmas.Members.{head_or_in}
use Rattle.signed_answers.proofs.lemmas.NsecsInOrder.{first_in, later_in}
use Rattle.signed_answers.specs.NsecSets.{IsNsecFor, IsUpTo, Rrset}

abbrev pub IsOther : Entry → Type 0
IsOther e = ¬ (e.0.record_type ≡ type_nsec)

abbrev pub shared : Entry → Rrset
shared e = (e.0, e.1.value)

contains_shared : (es : List Entry) (e : Entry) → Contains es e → Contains (shared_sets es) (shared e)
contains_shared [] e h = absurd (omega (arith, h.1))
contains_shared (f ∷ es) e h = elim (head_or_in f es e h) [
  | inl is ↦ subst (λ (q : Entry). Contains (shared_sets (f ∷ es)) (shared q)) is (first_in (shared f) (shared_sets es))
  | inr more ↦ later_in (shared f) (shared_sets es) (shared e) (contains_shared es e more)
]

-- The entry that is shared as this RRset.
record Shared (es : List Entry) (f : Rrset) : Type 0 where
  entry : Entry
  held : Contains es entry
  is : shared entry ≡ f

shared_by : (es : List Entry) (f : Rrset) → Contains (shared_sets es) f → Shared es f
shared_by [] f h = absurd (omega (arith, h.1))
shared_by (e ∷ es) f h = elim (head_or_in (shared e) (shared_sets es) f h) [
  | inl is ↦ let r : Shared (e ∷ es) f = record { entry = e; held = first_in e es; is = is } in r
  | inr more ↦
      let s = shared_by es f more in
      let r : Shared (e ∷ es) f = record { entry = s.entry; held = later_in e es s.entry s.held; is = s.is } in r
]

module _ {A : Type 0} (p : A → Bool) where
  kept_step : (b : Bool) (x y : A) (xs : List A) → p x ≡ true → y ≡ x → p y ≡ b → Contains (cond b (y ∷ xs) xs) x
  kept_step true x y xs h is e = subst (λ (z : A). Contains (y ∷ xs) z) is (first_in y xs)
  kept_step false x y xs h is e = absurd (no_truth (sym e ∙ ap p is ∙ h)) where
    no_truth : false ≡ true → ⊥
    no_truth f = cc

  later_step : (b : Bool) (x y : A) (xs : List A) → Contains xs x → Contains (cond b (y ∷ xs) xs) x
  later_step true x y xs h = later_in y xs x h
  later_step false x y xs h = h

  -- an element that passes is kept
  kept : (xs : List A) (x : A) → Contains xs x → p x ≡ true → Contains (filter p xs) x
  kept [] x h pass = absurd (omega (arith, h.1))
  kept (y ∷ ys) x h pass = elim (head_or_in y ys x h) [
    | inl is ↦ kept_step (p y) x y (filter p ys) pass is refl
    | inr more ↦ later_step (p y) x y (filter p ys) (kept ys x more pass)
  ]

keys_step : (b : Bool) (e : Entry) (es : List Entry) (ks : List RrKey) → keys_of es ≡ ks → keys_of (cond b (e ∷ es) es) ≡ cond b (e.0 ∷ ks) ks
keys_step true e es ks is = ap (λ (qs : List RrKey). e.0 ∷ qs) is
keys_step false e es ks is = is

keys_kept : (p : RrKey → Bool) (es : List Entry) → keys_of (filter (λ (e : Entry). p e.0) es) ≡ filter p (keys_of es)
keys_kept p [] = refl
keys_kept p (e ∷ es) = keys_step (p e.0) e (filter (λ (q : Entry). p q.0) es) (filter p (keys_of es)) (keys_kept p es)

picked : (P : RrKey → Type 0) (front : List Entry) (e : Entry) (rest : List Entry) → AllByRecursion P (keys_of (front ++ e ∷ rest)) → P e.0
picked P [] e rest h = h.0
picked P (f ∷ front) e rest h = picked P front e rest h.1

-- what is in front of an entry is below it
below_it : (front : List Entry) (e : Entry) (rest : List Entry) → IsStrictlySortedBy key_cmp (keys_of (front ++ e ∷ rest)) → (g : Entry) → Contains front g → key_cmp g.0 e.0 ≡ Less
unfolding IsStrictlySortedBy
below_it [] e rest sorted g h = absurd (omega (arith, h.1))
below_it (f ∷ front) e rest sorted g h = elim (head_or_in f front g h) [
  | inl is ↦ subst (λ (q : Entry). key_cmp q.0 e.0 ≡ Less) is (picked (λ k. key_cmp f.0 k ≡ Less) front e rest sorted.0)
  | inr more ↦ below_it front e rest sorted.1 g more
]

not_past : (o p : Ordering) → o ≡ ordering_reverse p → not (is_lt p) ≡ true → is_gt o ≡ false
not_past o Less e h = absurd cc
not_past o Equal e h = ap is_gt e
not_past o Greater e h = ap is_gt e

within : (o p : Ordering) → o ≡ ordering_reverse p → is_gt p ≡ false → not (is_lt o) ≡ true
within o Less e h = ap (λ (q : Ordering). not (is_lt q)) e
within o Equal e h = ap (λ (q : Ordering). not (is_lt q)) e
within o Greater e h = absurd cc

tied_types : (o : Ordering) (t u : ℕ) → t ≡ u → is_gt o ≡ false → is_gt (ordering_then o (nat_cmp t u)) ≡ false
tied_types Less t u e h = refl
tied_types Equal t u e h = ap is_gt (ap (λ (n : ℕ). nat_cmp n u) e ∙ nat_tied u) where
  nat_tied : (n : ℕ) → nat_cmp n n ≡ Equal
  nat_tied n = tied_itself nat_cmp_total n
tied_types Greater t u e h = absurd cc

module _ (sets : SharedMap) (at : RrKey) (of_nsec : at.record_type ≡ type_nsec) where
  abbrev passes : RrKey → Bool
  passes k = range_contains key_cmp Unbounded (Included at) k

  abbrev whole : List Entry
  whole = entries_between key_cmp Unbounded (Included at) sets.entries

  -- an NSEC RRset up to the name is in the range
  in_range : (f : Rrset) (s : Shared sets.entries f) → f.0.record_type ≡ type_nsec → IsUpTo f.0.name at.name → Contains whole s.entry
  in_range f s typed up =
      let own : IsUpTo s.entry.0.name at.name = subst (λ (q : Rrset). IsUpTo q.0.name at.name) (sym s.is) up in
      let type : s.entry.0.record_type ≡ at.record_type = ap (λ (q : Rrset). q.0.record_type) s.is ∙ typed ∙ sym of_nsec in
      kept (λ (e : Entry). passes e.0) sets.entries s.entry s.held
      (within (key_cmp at s.entry.0) (key_cmp s.entry.0 at) (key_total.antisymm at s.entry.0) (tied_types (name_cmp s.entry.0.name at.name) s.entry.0.record_type at.record_type type own))

  pub none_found : (left passed : List Entry) → whole ≡ left ++ passed → AllByRecursion IsOther passed → left ≡ [] → (f : Rrset) → Contains (sets_of sets) f → f.0.record_type ≡ type_nsec → ¬ (IsUpTo f.0.name at.name)
  none_found left passed is others empty f held typed up =
      let s = shared_by sets.entries f held in
      let inside : Contains passed s.entry = subst (λ (es : List Entry). Contains es s.entry) (is ∙ ap (λ (es : List Entry). es ++ passed) empty) (in_range f s typed up) in
      All-contains IsOther passed s.entry (All-from_recursion IsOther passed others) inside (ap (λ (q : Rrset). q.0.record_type) s.is ∙ typed)

  pub last_found : (left rest passed : List Entry) (e : Entry) → IsStrictlySortedBy key_cmp (keys_of sets.entries) → whole ≡ left ++ passed → AllByRecursion IsOther passed → left ≡ rest ++ e ∷ [] → e.0.record_type ≡ type_nsec → IsNsecFor (sets_of sets) at.name (shared e)
  last_found left rest passed e sorted is others ends typed =
      let all : whole ≡ rest ++ e ∷ passed = is ∙ ap (λ (es : List Entry). es ++ passed) ends ∙ append_assoc rest (e ∷ []) passed in
      let inside : Contains whole e = subst (λ (es : List Entry). Contains es e) (sym all) (Contains-append_right rest (e ∷ passed) e (first_in e passed)) in
      let held : Contains sets.entries e = All-contains (Contains sets.entries) whole e (All-filter (λ (q : Entry). passes q.0) (Contains sets.entries) sets.entries (All-contains_itself sets.entries)) inside in
      let pass : passes e.0 ≡ true = All-contains (λ (q : Entry). passes q.0 ≡ true) whole e (filter_passes (λ (q : Entry). passes q.0) sets.entries) inside in
      let order : IsStrictlySortedBy key_cmp (keys_of (rest ++ e ∷ passed)) =
      subst (λ (ks : List RrKey). IsStrictlySortedBy key_cmp ks) (sym (keys_kept passes sets.entries) ∙ ap (λ (es : List Entry). keys_of es) all) (IsStrictlySortedBy-filter key_cmp passes (keys_of sets.entries) sorted) in
      record {
        held = contains_shared sets.entries e held;
        nsec = typed;
        up_to = names_up_to e.0 at (not_past (key_cmp e.0 at) (key_cmp at e.0) (key_total.antisymm e.0 at) pass);
        last = last_by all order;
      } where
        last_by : whole ≡ rest ++ e ∷ passed → IsStrictlySortedBy key_cmp (keys_of (rest ++ e ∷ passed)) → (f : Rrset) → Contains (sets_of sets) f → f.0.record_type ≡ type_nsec → IsUpTo f.0.name at.name → IsUpTo f.0.name e.0.name
        last_by all order f held of up =
            let s = shared_by sets.entries f held in
            subst (λ (q : Rrset). IsUpTo q.0.name e.0.name) s.is
            (elim (Contains-append_cases rest (e ∷ passed) s.entry (subst (λ (es : List Entry). Contains es s.entry) all (in_range f s of up))) [
              | inl front ↦ names_up_to s.entry.0 e.0 (ap is_gt (below_it rest e passed order s.entry front))
              | inr from ↦ elim (head_or_in e passed s.entry from) [
                | inl itself ↦ subst (λ (q : Entry). IsUpTo q.0.name e.0.name) itself (ap is_gt (tied_itself name_cmp_total e.0.name))
                | inr past ↦ absurd (All-contains IsOther passed s.entry (All-from_recursion IsOther passed others) past (ap (λ (q : Rrset). q.0.record_type) s.is ∙ of))
              ]
            ])
