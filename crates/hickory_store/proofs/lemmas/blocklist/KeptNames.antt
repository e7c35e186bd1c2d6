-- The names on a list, and beside them the bases of the wildcards among them, as names are put in.
use Rattle.std.proofs.Common.{◌≡◌, ℕ, Bool, true, false, cond, List, [], ◌∷◌, drop, inl, inr, refl, sym, ap, subst, ◌∙◌}
use Rattle.std.specs.Prelude.{◌↔◌, ◌⊎◌, IsTrue}
use Rattle.std.specs.Bool.{MatchBool}
use Rattle.std.specs.List.{All, list_any, IsDistinct}
use Rattle.std.specs.List.Sorted.{IsPermutation}
use Rattle.std.specs.Cmp.{IsEquivalence, eq_by_cmp_equiv}
use Rattle.std.proofs.lemmas.Bool.{false≢true}
use Rattle.std.proofs.lemmas.List.Elements.{All-from_recursion, recursion_from_All}
use Rattle.std.proofs.lemmas.List.Sorted.{All-permutation}
use Rattle.std.proofs.lemmas.List.Folds.{Any-from_list_any, list_any-from_Any}
use Rattle.std.proofs.lemmas.Map.Steps.{list_any_congr}
use Rattle.wire_names.specs.rr.domain.DomainName.{DomainName}
use Rattle.wire_names.specs.rr.domain.NameOrder.{SameName, lower_labels, name_cmp_total, name_eq, is_wildcard}
use Rattle.wire_names.specs.representation.NameHash.{same_from_eq}
use Rattle.wire_names.proofs.lemmas.rr.domain.SameNames.{eq_from_same, eq_is, both_ways, is_false}
use Rattle.hickory_store.specs.blocklist.Entries.{HasEntry, IsEntry, AreEntries, AddsEntry, wildcard_over}

-- ---- membership as a test

abbrev pub has : List DomainName → DomainName → Bool
has names name = list_any (name_eq name) names

same_back : (a b : DomainName) → SameName a b → SameName b a
same_back a b s = record { labels = sym s.labels; marks = sym s.marks }

pub name_laws : IsEquivalence name_eq
name_laws = eq_by_cmp_equiv name_cmp_total

module _ (names : List DomainName) (name : DomainName) where
  pub has_entry : has names name ≡ true → HasEntry names name
  has_entry h = let a = Any-from_list_any (name_eq name) names h in (a.0, a.1, a.2, a.3, same_back name a.1 (same_from_eq name a.1 a.4))

  pub entry_has : HasEntry names name → has names name ≡ true
  entry_has a = list_any-from_Any (name_eq name) names (a.0, a.1, a.2, a.3, eq_from_same name a.1 (same_back a.1 name a.4))

  pub tells_entry : (b : Bool) → b ≡ has names name → IsTrue b ↔ HasEntry names name
  tells_entry b e = (λ t. has_entry (sym e ∙ t), λ a. e ∙ entry_has a)

-- names that are the same are in a list alike
pub has_alike : (names : List DomainName) (a b : DomainName) → SameName a b → has names a ≡ has names b
has_alike names a b s = list_any_congr name_laws a b names (eq_from_same a b s)

-- what a list has once a name is put in, and once it is taken out
abbrev pub Puts : List DomainName → DomainName → List DomainName → Type 0
Puts old name new = (q : DomainName) → has new q ≡ cond (name_eq name q) true (has old q)

abbrev pub Takes : List DomainName → DomainName → List DomainName → Type 0
Takes old name new = (q : DomainName) → has new q ≡ cond (name_eq name q) false (has old q)

module _ (old : List DomainName) (entry : DomainName) (new : List DomainName) (puts : Puts old entry new) where
  put_cases : (q : DomainName) (b : Bool) → name_eq entry q ≡ b → has new q ≡ true → HasEntry old q ⊎ SameName entry q
  put_cases q true e h = inr (same_from_eq entry q e)
  put_cases q false e h = inl (has_entry old q (sym (puts q ∙ ap (λ t. cond t true (has old q)) e) ∙ h))

  put_old : (q : DomainName) (b : Bool) → name_eq entry q ≡ b → has old q ≡ true → has new q ≡ true
  put_old q true e h = puts q ∙ ap (λ t. cond t true (has old q)) e
  put_old q false e h = puts q ∙ ap (λ t. cond t true (has old q)) e ∙ h

  put_new : (q : DomainName) → SameName entry q → has new q ≡ true
  put_new q s = puts q ∙ ap (λ t. cond t true (has old q)) (eq_from_same entry q s)

  pub adds_entry : AddsEntry old entry new
  adds_entry = λ q. (
    λ a. put_cases q (name_eq entry q) refl (entry_has new q a),
    λ either. has_entry new q (elim either [ inl a ↦ put_old q (name_eq entry q) refl (entry_has old q a) | inr s ↦ put_new q s ]),
  )

-- ---- the entries stay in lower case and fully qualified, each of them once

each_put : (old : List DomainName) (entry : DomainName) (new : List DomainName) (added : Bool) → AreEntries old → IsEntry entry → MatchBool added (IsPermutation (entry ∷ old) new) (new ≡ old) → All IsEntry new
each_put old entry new true are e puts =
    All-permutation IsEntry (entry ∷ old) new puts (All-from_recursion IsEntry (entry ∷ old) (e, recursion_from_All IsEntry old are.each))
each_put old entry new false are e puts = subst (All IsEntry) (sym puts) are.each

pub put_entries : (old : List DomainName) (entry : DomainName) (new : List DomainName) (added : Bool) → AreEntries old → IsEntry entry → MatchBool added (IsPermutation (entry ∷ old) new) (new ≡ old) → IsDistinct name_eq new → AreEntries new
put_entries old entry new added are e puts once = record { each = each_put old entry new added are e puts; once = once }

-- ---- wildcards and their bases

abbrev pub full : List (List ℕ) → DomainName
full labels = record { labels = labels; is_fqdn = true }

is_full : (name : DomainName) (labels : List (List ℕ)) → name.labels ≡ labels → name.is_fqdn ≡ true → name ≡ full labels
is_full name labels e m =
    ap (λ (ls : List (List ℕ)). let d : DomainName = record { labels = ls; is_fqdn = name.is_fqdn } in d) e
    ∙ ap (λ (b : Bool). let d : DomainName = record { labels = labels; is_fqdn = b } in d) m

first_star : (labels : List (List ℕ)) → is_wildcard labels ≡ true → labels ≡ (42 ∷ []) ∷ drop 1 labels
first_star [] e = absurd (false≢true e)
first_star (l ∷ ls) e = ap (λ (k : List ℕ). k ∷ ls) (eq_is l (42 ∷ []) e)

-- a wildcard is `*` over its base
pub over_base : (name : DomainName) → name.is_fqdn ≡ true → is_wildcard name.labels ≡ true → name ≡ wildcard_over (drop 1 name.labels)
over_base name m w = is_full name ((42 ∷ []) ∷ drop 1 name.labels) (first_star name.labels w) m

-- wildcards are the same where their bases are
over_same : (a b : List (List ℕ)) → SameName (full a) (full b) → SameName (wildcard_over a) (wildcard_over b)
over_same a b s = record { labels = ap (λ (ls : List (List ℕ)). (42 ∷ []) ∷ ls) s.labels; marks = refl }

base_same : (a b : List (List ℕ)) → SameName (wildcard_over a) (wildcard_over b) → SameName (full a) (full b)
base_same a b s = record { labels = ap (drop 1) s.labels; marks = refl }

over_eq : (a b : List (List ℕ)) → name_eq (wildcard_over a) (wildcard_over b) ≡ name_eq (full a) (full b)
over_eq a b =
    both_ways _ _
    (λ h. eq_from_same (full a) (full b) (base_same a b (same_from_eq (wildcard_over a) (wildcard_over b) h)))
    (λ h. eq_from_same (wildcard_over a) (wildcard_over b) (over_same a b (same_from_eq (full a) (full b) h)))

-- an entry whose first label is not `*` is no wildcard
not_over : (name : DomainName) (base : List (List ℕ)) → IsEntry name → is_wildcard name.labels ≡ false → name_eq name (wildcard_over base) ≡ false
not_over name base e w =
    is_false _ (λ h.
    let s : SameName name (wildcard_over base) = same_from_eq name (wildcard_over base) h in
    let is : name.labels ≡ (42 ∷ []) ∷ lower_labels base = sym e.lower ∙ s.labels in
    false≢true (sym w ∙ ap is_wildcard is))

-- what stands beside the names
abbrev pub Beside : List DomainName → List DomainName → Type 0
Beside names bases = (base : List (List ℕ)) → has bases (full base) ≡ has names (wildcard_over base)

-- another entry is put in
pub beside_plain : (names : List DomainName) (entry : DomainName) (new bases : List DomainName) → Beside names bases → IsEntry entry → is_wildcard entry.labels ≡ false → Puts names entry new → Beside new bases
beside_plain names entry new bases beside e w puts =
    λ base. beside base ∙ sym (puts (wildcard_over base) ∙ ap (λ t. cond t true (has names (wildcard_over base))) (not_over entry base e w))

module _ (names bases : List DomainName) (beside : Beside names bases) (entry : DomainName) (e : IsEntry entry) (w : is_wildcard entry.labels ≡ true) where
  own : List (List ℕ)
  own = drop 1 entry.labels

  over : entry ≡ wildcard_over (drop 1 entry.labels)
  over = over_base entry e.full w

  -- a wildcard is put in, and its base beside it
  pub beside_wildcard : (base : DomainName) (new grown : List DomainName) → base ≡ full (drop 1 entry.labels) → Puts bases base grown → Puts names entry new → Beside new grown
  beside_wildcard base new grown is grows puts =
      λ b.
      let same : name_eq base (full b) ≡ name_eq entry (wildcard_over b) =
      ap (λ (d : DomainName). name_eq d (full b)) is ∙ sym (over_eq (drop 1 entry.labels) b) ∙ ap (λ (d : DomainName). name_eq d (wildcard_over b)) (sym over) in
      grows (full b) ∙ ap (λ t. cond t true (has bases (full b))) same ∙ ap (λ t. cond (name_eq entry (wildcard_over b)) true t) (beside b) ∙ sym (puts (wildcard_over b))

  undone : (b : List (List ℕ)) (base : DomainName) (grown back : List DomainName) (t : Bool) → base ≡ full (drop 1 entry.labels) → Puts bases base grown → Takes grown base back → has names entry ≡ false
      → name_eq base (full b) ≡ t → has back (full b) ≡ has bases (full b)
  undone b base grown back false is grows shrinks absent at =
      shrinks (full b) ∙ ap (λ t. cond t false (has grown (full b))) at ∙ grows (full b) ∙ ap (λ t. cond t true (has bases (full b))) at
  undone b base grown back true is grows shrinks absent at =
      let same : SameName (full (drop 1 entry.labels)) (full b) = subst (λ (d : DomainName). SameName d (full b)) is (same_from_eq base (full b) at) in
      let none : has bases (full b) ≡ false =
      sym (has_alike bases (full (drop 1 entry.labels)) (full b) same) ∙ beside (drop 1 entry.labels) ∙ ap (has names) (sym over) ∙ absent in
      shrinks (full b) ∙ ap (λ t. cond t false (has grown (full b))) at ∙ sym none

  -- its base was put in, and taken out again since the wildcard could not be put in
  pub beside_back : (base again : DomainName) (grown back same : List DomainName) → base ≡ full (drop 1 entry.labels) → again ≡ full (drop 1 entry.labels) → Puts bases base grown → Takes grown again back → has names entry ≡ false → same ≡ names → Beside same back
  beside_back base again grown back same is too grows shrinks absent kept =
      λ b. undone b base grown back (name_eq base (full b)) is grows (λ q. shrinks q ∙ ap (λ (d : DomainName). cond (name_eq d q) false (has grown q)) (too ∙ sym is)) absent refl
      ∙ beside b ∙ ap (λ (ns : List DomainName). has ns (wildcard_over b)) (sym kept)

-- the name above a fully qualified one
pub shortened : (name copy next : DomainName) → IsEntry name → copy ≡ name → next ≡ record copy { labels = drop 1 copy.labels } → next ≡ full (drop 1 name.labels)
shortened name copy next e is shorter =
    shorter ∙ ap (λ (d : DomainName). let n : DomainName = record d { labels = drop 1 d.labels } in n) is ∙ is_full (record name { labels = drop 1 name.labels }) (drop 1 name.labels) refl e.full
