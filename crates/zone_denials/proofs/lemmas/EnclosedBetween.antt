-- In the order of names, what is between a name and one that it encloses is enclosed by it too (RFC 4034 section
-- 6.1).
use Rattle.std.proofs.Common.{◌≡◌, ℕ, true, false, List, [], ◌∷◌, ◌++◌, map, reverse, refl, sym, ap, ◌∙◌}
use Rattle.std.specs.declared.cmp.Ordering.{Ordering}
use Rattle.std.specs.declared.cmp.Ordering.TheVariants.{Less, Equal, Greater}
use Rattle.std.specs.Ordering.{nat_cmp, bool_cmp, ordering_then, ordering_reverse, is_gt}
use Rattle.std.specs.Cmp.{tied_itself, tied_back, upto}
use Rattle.std.specs.Cmp.Derive.Mapped.{lex_map}
use Rattle.std.specs.Cmp.Lexicographic.{slice_cmp, nat_list_cmp_total}
use Rattle.std.specs.BTreeMap.Range.{IsLeBy}
use Rattle.std.proofs.lemmas.List.{reverse-append, reverse-reverse}
use Rattle.std.proofs.lemmas.Map.Lookups.{exact_bytes}
use Rattle.wire_names.specs.rr.domain.DomainName.{DomainName}
use Rattle.wire_names.specs.representation.NameHash.{map-reverse}
use Rattle.wire_names.specs.rr.domain.NameOrder.{SameName, Encloses, name_cmp, name_cmp_total, label_cmp, lower_label, lower_labels}
use Rattle.wire_names.specs.representation.NameHash.{same_from_eq}
use Rattle.wire_names.proofs.lemmas.rr.domain.SameNames.{eq_from_order, eq_from_same, order_from_eq}

pub same_of : (a b : DomainName) → name_cmp a b ≡ Equal → SameName a b
same_of a b e = same_from_eq a b (eq_from_order a b e)

pub same_back : (a b : DomainName) → SameName a b → SameName b a
same_back a b s = record { labels = sym s.labels; marks = sym s.marks }

pub equal_of : (a b : DomainName) → SameName a b → name_cmp a b ≡ Equal
equal_of a b s = order_from_eq a b (eq_from_same a b s)

-- labels in lower case, the last one first
abbrev turned : List (List ℕ) → List (List ℕ)
turned labels = reverse (lower_labels labels)

abbrev lower_cmp : List (List ℕ) → List (List ℕ) → Ordering
lower_cmp = slice_cmp (slice_cmp nat_cmp)

by_lower : (a b : List (List ℕ)) → slice_cmp label_cmp (reverse a) (reverse b) ≡ lower_cmp (turned a) (turned b)
by_lower a b =
    sym (lex_map lower_label (slice_cmp nat_cmp) (reverse a) (reverse b))
    ∙ ap (λ zs. lower_cmp zs (map lower_label (reverse b))) (map-reverse lower_label a)
    ∙ ap (lower_cmp (turned a)) (map-reverse lower_label b)

first_not_above : (o p : Ordering) → is_gt (ordering_then o p) ≡ false → is_gt o ≡ false
first_not_above Less p h = refl
first_not_above Equal p h = refl
first_not_above Greater p h = h

tie : (o : Ordering) → is_gt o ≡ false → is_gt (ordering_reverse o) ≡ false → o ≡ Equal
tie Less h k = absurd (cc)
tie Equal h k = refl
tie Greater h k = absurd (cc)

second_not_above : (o p : Ordering) → o ≡ Equal → is_gt (ordering_then o p) ≡ false → is_gt p ≡ false
second_not_above o p e h = ap (λ q. is_gt (ordering_then q p)) (sym e) ∙ h

-- what is between a list and a longer one that starts with it starts with it too
starts : (xs ys more : List (List ℕ)) → is_gt (lower_cmp xs ys) ≡ false → is_gt (lower_cmp ys (xs ++ more)) ≡ false → (rest : List (List ℕ)) × (ys ≡ xs ++ rest)
starts [] ys more h k = (ys, refl)
starts (x ∷ xs) [] more h k = absurd (cc)
starts (x ∷ xs) (y ∷ ys) more h k =
    let back : is_gt (ordering_reverse (slice_cmp nat_cmp x y)) ≡ false = ap is_gt (sym (nat_list_cmp_total.antisymm y x)) ∙ first_not_above (slice_cmp nat_cmp y x) (lower_cmp ys (xs ++ more)) k in
    let e : slice_cmp nat_cmp x y ≡ Equal = tie (slice_cmp nat_cmp x y) (first_not_above (slice_cmp nat_cmp x y) (lower_cmp xs ys) h) back in
    let is : x ≡ y = exact_bytes x y e in
    let r = starts xs ys more (second_not_above (slice_cmp nat_cmp x y) (lower_cmp xs ys) e h) (second_not_above (slice_cmp nat_cmp y x) (lower_cmp ys (xs ++ more)) (tied_back nat_list_cmp_total x y e) k) in
    (r.0, ap (λ l. l ∷ ys) (sym is) ∙ ap (λ ls. x ∷ ls) r.1)

labels_not_above : (a b : DomainName) → IsLeBy name_cmp a b → is_gt (lower_cmp (turned a.labels) (turned b.labels)) ≡ false
labels_not_above a b h = ap is_gt (sym (by_lower a.labels b.labels)) ∙ first_not_above (slice_cmp label_cmp (reverse a.labels) (reverse b.labels)) (bool_cmp a.is_fqdn b.is_fqdn) h

turned_ends : (ns ms : List (List ℕ)) (e : Encloses ns ms) → turned ms ≡ turned ns ++ reverse e.front
turned_ends ns ms e = ap reverse e.ends ∙ reverse-append e.front (lower_labels ns)

pub between : (low middle high : DomainName) → IsLeBy name_cmp low middle → IsLeBy name_cmp middle high → Encloses low.labels high.labels → Encloses low.labels middle.labels
between low middle high h k e =
    let ends : is_gt (lower_cmp (turned middle.labels) (turned low.labels ++ reverse e.front)) ≡ false =
    ap (λ zs. is_gt (lower_cmp (turned middle.labels) zs)) (sym (turned_ends low.labels high.labels e)) ∙ labels_not_above middle high k in
    let r = starts (turned low.labels) (turned middle.labels) (reverse e.front) (labels_not_above low middle h) ends in
    record {
      front = reverse r.0;
      ends = sym (reverse-reverse (lower_labels middle.labels)) ∙ ap reverse r.1 ∙ reverse-append (turned low.labels) r.0
          ∙ ap (λ ls. reverse r.0 ++ ls) (reverse-reverse (lower_labels low.labels));
    }

-- what is between two names that are the same is the same
pub between_same : (low middle high : DomainName) → IsLeBy name_cmp low middle → IsLeBy name_cmp middle high → SameName low high → SameName middle high
between_same low middle high h k s =
    let e : name_cmp high low ≡ Equal = equal_of high low (same_back low high s) in
    let back : is_gt (name_cmp middle low) ≡ false = upto name_cmp_total middle high low k (ap is_gt e) in
    let t : SameName low middle = same_of low middle (tie (name_cmp low middle) h (ap is_gt (sym (name_cmp_total.antisymm middle low)) ∙ back)) in
    record { labels = sym t.labels ∙ s.labels; marks = sym t.marks ∙ s.marks }

starts_below : (xs more : List (List ℕ)) → is_gt (ordering_then (lower_cmp xs (xs ++ more)) Equal) ≡ false
starts_below [] [] = refl
starts_below [] (l ∷ more) = refl
starts_below (x ∷ xs) more = ap (λ o. is_gt (ordering_then (ordering_then o (lower_cmp xs (xs ++ more))) Equal)) (tied_itself nat_list_cmp_total x) ∙ starts_below xs more

-- a fully qualified name is not after one that it encloses
pub encloses_up_to : (low high : DomainName) → low.is_fqdn ≡ true → high.is_fqdn ≡ true → Encloses low.labels high.labels → IsLeBy name_cmp low high
encloses_up_to low high p q e =
    let marks : bool_cmp low.is_fqdn high.is_fqdn ≡ Equal = ap (λ m. bool_cmp m high.is_fqdn) p ∙ ap (bool_cmp true) q in
    ap (λ o. is_gt (ordering_then o (bool_cmp low.is_fqdn high.is_fqdn))) (by_lower low.labels high.labels ∙ ap (lower_cmp (turned low.labels)) (turned_ends low.labels high.labels e))
    ∙ ap (λ o. is_gt (ordering_then (lower_cmp (turned low.labels) (turned low.labels ++ reverse e.front)) o)) marks
    ∙ starts_below (turned low.labels) (reverse e.front)
