-- Names that are compared by their bytes.
use Rattle.std.proofs.Common.{◌≡◌, ℕ, Bool, true, false, List, [], ◌∷◌, ◌++◌, length, map, reverse, refl, sym, ap, ◌∙◌, arith}
use Rattle.std.specs.declared.cmp.Ordering.{Ordering}
use Rattle.std.specs.declared.cmp.Ordering.TheVariants.{Less, Equal, Greater}
use Rattle.std.specs.Ordering.{nat_cmp, bool_cmp, ordering_then, ordering_reverse, is_eq}
use Rattle.std.specs.Cmp.{IsTotalOrder, bool_cmp_total}
use Rattle.std.specs.Char.{to_ascii_lowercase}
use Rattle.std.specs.Cmp.Lexicographic.{slice_cmp, lists_total, nat_list_cmp_total}
use Rattle.std.specs.Cmp.Derive.Mapped.{lex_map}
use Rattle.std.specs.List.{AllByRecursion}
use Rattle.std.proofs.lemmas.Map.Lookups.{exact_bytes}
use Rattle.std.proofs.lemmas.List.{map-append, length-map}
use Rattle.std.proofs.lemmas.List.Elements.{recursion_from_All}
use Rattle.std.proofs.lemmas.Str.Ascii.{lowercase_is, lowercase-lowercase}
use Rattle.std.specs.Str.{bytes_eq}
use Rattle.std.specs.Bool.{IsTrue}
use Rattle.std.proofs.lemmas.Map.Text.{is_eq-slice_cmp}
use Rattle.wire_names.specs.rr.domain.DomainName.{DomainName, wire_form, cut, IsLabel, AreLabels}
use Rattle.wire_names.specs.rr.domain.NameOrder.{lower_labels, lower_name, SameName, lower_label, label_cmp, name_cmp, name_eq}
use Rattle.wire_names.specs.representation.NameHash.{then-equal, equal_is, map-reverse, labels_exact}
use Rattle.wire_names.proofs.lemmas.rr.domain.WireForm.{cut-wire}

pub lower-wire_all : (ls : List (List ℕ)) → AllByRecursion IsLabel ls → map to_ascii_lowercase (wire_form ls) ≡ wire_form (map lower_label ls)
lower-wire_all [] h = refl
lower-wire_all (l ∷ ls) h =
    let small : to_ascii_lowercase (length l) ≡ length l = (lowercase_is (length l)).1 (omega (arith, h.0.1)) in
    let size : length (lower_label l) ≡ length l = length-map l to_ascii_lowercase in
    let front : map to_ascii_lowercase (l ++ wire_form ls) ≡ lower_label l ++ wire_form (map lower_label ls) = map-append to_ascii_lowercase l (wire_form ls) ∙ ap (λ r. lower_label l ++ r) (lower-wire_all ls h.1) in
    ap (λ n. n ∷ map to_ascii_lowercase (l ++ wire_form ls)) (small ∙ sym size) ∙ ap (λ r. length (lower_label l) ∷ r) front

pub lower-wire : (ls : List (List ℕ)) → AreLabels ls → map to_ascii_lowercase (wire_form ls) ≡ wire_form (map lower_label ls)
lower-wire ls are = lower-wire_all ls (recursion_from_All IsLabel ls are.each)

pub wire-same : (a b : List (List ℕ)) → wire_form a ≡ wire_form b → a ≡ b
wire-same a b e = sym (cut-wire a) ∙ ap cut e ∙ cut-wire b

pub both_ways : (a b : Bool) → (a ≡ true → b ≡ true) → (b ≡ true → a ≡ true) → a ≡ b
both_ways true b h k = sym (h refl)
both_ways false true h k = k refl
both_ways false false h k = refl

pub eq_is : (xs ys : List ℕ) → bytes_eq xs ys ≡ true → xs ≡ ys
eq_is xs ys h = exact_bytes xs ys (equal_is _ (is_eq-slice_cmp xs ys ∙ h))

self_tie : (o : Ordering) → o ≡ ordering_reverse o → o ≡ Equal
self_tie Less h = absurd (cc)
self_tie Equal h = refl
self_tie Greater h = absurd (cc)

pub same_cmp : {K : Type 0} {R : K → K → Ordering} → IsTotalOrder R → (x : K) → R x x ≡ Equal
same_cmp {R = R} o x = self_tie (R x x) (o.antisymm x x)

pub eq_from : (xs ys : List ℕ) → xs ≡ ys → bytes_eq xs ys ≡ true
eq_from xs ys e = sym (is_eq-slice_cmp xs ys) ∙ ap (λ zs. is_eq (slice_cmp nat_cmp xs zs)) (sym e) ∙ ap is_eq (same_cmp nat_list_cmp_total xs)

-- labels that are the same without case tie
pub labels_tied : (a b : List (List ℕ)) → map lower_label a ≡ map lower_label b → slice_cmp label_cmp (reverse a) (reverse b) ≡ Equal
labels_tied a b s =
    let r : map lower_label (reverse a) ≡ map lower_label (reverse b) = map-reverse lower_label a ∙ ap reverse s ∙ sym (map-reverse lower_label b) in
    sym (lex_map lower_label (slice_cmp nat_cmp) (reverse a) (reverse b))
    ∙ ap (λ zs. slice_cmp (slice_cmp nat_cmp) zs (map lower_label (reverse b))) r
    ∙ same_cmp (lists_total nat_list_cmp_total) (map lower_label (reverse b))

tied : (a b : DomainName) → map lower_label a.labels ≡ map lower_label b.labels → a.is_fqdn ≡ b.is_fqdn → name_eq a b ≡ true
tied a b s e =
    let r : slice_cmp label_cmp (reverse a.labels) (reverse b.labels) ≡ Equal = labels_tied a.labels b.labels s in
    let m : bool_cmp a.is_fqdn b.is_fqdn ≡ Equal = ap (λ x. bool_cmp x b.is_fqdn) e ∙ same_cmp bool_cmp_total b.is_fqdn in
    ap (λ o. is_eq (ordering_then o (bool_cmp a.is_fqdn b.is_fqdn))) r ∙ ap is_eq m

-- two names are the same where their bytes are, without case
pub name_eq_flat : (a b : DomainName) → AreLabels a.labels → AreLabels b.labels → a.is_fqdn ≡ b.is_fqdn → name_eq a b ≡ bytes_eq (map to_ascii_lowercase (wire_form a.labels)) (map to_ascii_lowercase (wire_form b.labels))
name_eq_flat a b p q e =
    both_ways _ _
    (λ h. let t = then-equal _ _ (equal_is _ h) in
    eq_from _ _ (lower-wire a.labels p ∙ ap wire_form (labels_exact a.labels b.labels t.0) ∙ sym (lower-wire b.labels q)))
    (λ h. let s : map lower_label a.labels ≡ map lower_label b.labels = wire-same _ _ (sym (lower-wire a.labels p) ∙ eq_is _ _ h ∙ lower-wire b.labels q) in
    tied a b s e)

pub is_false : (b : Bool) → (b ≡ true → ⊥) → b ≡ false
is_false true h = absurd (h refl)
is_false false h = refl

no : false ≡ true → ⊥
no e = cc

pub decided : (b : Bool) (xs ys : List ℕ) → (IsTrue b → xs ≡ ys) × (xs ≡ ys → IsTrue b) → b ≡ bytes_eq xs ys
decided true xs ys h = sym (eq_from xs ys (h.0 refl))
decided false xs ys h = sym (is_false (bytes_eq xs ys) (λ e. no (h.1 (eq_is xs ys e))))

-- lower case stays as it is
lower_label-twice : (l : List ℕ) → lower_label (lower_label l) ≡ lower_label l
lower_label-twice [] = refl
lower_label-twice (b ∷ l) = cc (lowercase-lowercase b, lower_label-twice l)

pub lower_labels-twice : (ls : List (List ℕ)) → lower_labels (lower_labels ls) ≡ lower_labels ls
lower_labels-twice [] = refl
lower_labels-twice (l ∷ ls) = cc (lower_label-twice l, lower_labels-twice ls)

pub eq_from_same : (a b : DomainName) → SameName a b → IsTrue (name_eq a b)
eq_from_same a b s = tied a b s.labels s.marks

pub eq_from_order : (a b : DomainName) → name_cmp a b ≡ Equal → IsTrue (name_eq a b)
eq_from_order a b h = ap is_eq h

pub order_from_eq : (a b : DomainName) → IsTrue (name_eq a b) → name_cmp a b ≡ Equal
order_from_eq a b h = equal_is (name_cmp a b) h

by_lower : (a b : List (List ℕ)) → slice_cmp label_cmp (reverse a) (reverse b) ≡ slice_cmp (slice_cmp nat_cmp) (reverse (lower_labels a)) (reverse (lower_labels b))
by_lower a b =
    sym (lex_map lower_label (slice_cmp nat_cmp) (reverse a) (reverse b))
    ∙ ap (λ zs. slice_cmp (slice_cmp nat_cmp) zs (map lower_label (reverse b))) (map-reverse lower_label a)
    ∙ ap (λ zs. slice_cmp (slice_cmp nat_cmp) (reverse (lower_labels a)) zs) (map-reverse lower_label b)

-- the order goes by what names are the same
pub same_order : (a b x y : DomainName) → SameName a x → SameName b y → name_cmp a b ≡ name_cmp x y
same_order a b x y s t =
    let first : slice_cmp label_cmp (reverse a.labels) (reverse b.labels) ≡ slice_cmp label_cmp (reverse x.labels) (reverse y.labels) =
    by_lower a.labels b.labels
    ∙ ap (λ zs. slice_cmp (slice_cmp nat_cmp) (reverse zs) (reverse (lower_labels b.labels))) s.labels
    ∙ ap (λ zs. slice_cmp (slice_cmp nat_cmp) (reverse (lower_labels x.labels)) (reverse zs)) t.labels
    ∙ sym (by_lower x.labels y.labels) in
    let second : bool_cmp a.is_fqdn b.is_fqdn ≡ bool_cmp x.is_fqdn y.is_fqdn = ap (λ m. bool_cmp m b.is_fqdn) s.marks ∙ ap (bool_cmp x.is_fqdn) t.marks in
    ap (λ o. ordering_then o (bool_cmp a.is_fqdn b.is_fqdn)) first ∙ ap (ordering_then (slice_cmp label_cmp (reverse x.labels) (reverse y.labels))) second

pub lower_same : (a : DomainName) → SameName (lower_name a) a
lower_same a = record { labels = lower_labels-twice a.labels; marks = refl }

-- names in lower case are the same only if they are identical
pub lower_exact : (a b : DomainName) → lower_labels a.labels ≡ a.labels → lower_labels b.labels ≡ b.labels → SameName a b → a ≡ b
lower_exact a b p q s =
    let e : a.labels ≡ b.labels = sym p ∙ s.labels ∙ q in
    ap (λ (ls : List (List ℕ)). let d : DomainName = record { labels = ls; is_fqdn = a.is_fqdn } in d) e
    ∙ ap (λ (m : Bool). let d : DomainName = record { labels = b.labels; is_fqdn = m } in d) s.marks
