-- How names are hashed.
use Rattle.std.specs.Prelude.{◌≡◌, ℕ, Bool, true, false, List, [], ◌∷◌, ◌++◌, map, reverse}
use Rattle.std.specs.Bool.{IsTrue}
use Rattle.std.specs.Hash as fed
use Rattle.std.specs.declared.cmp.Ordering.{Ordering}
use Rattle.std.specs.declared.cmp.Ordering.TheVariants.{Less, Equal, Greater}
use Rattle.std.specs.Ordering.{nat_cmp, bool_cmp, ordering_then, is_eq}
use Rattle.std.specs.Cmp.Lexicographic.{slice_cmp}
use Rattle.std.specs.Cmp.Derive.Mapped.{lex_map}
use Rattle.std.proofs.Common.{refl, sym, ap, ◌∙◌}
use Rattle.std.proofs.lemmas.Map.Lookups.{CmpEqualImpliesEq, exact_bytes}
use Rattle.std.proofs.lemmas.List.{reverse-append, reverse-reverse, map-append}
use Rattle.wire_names.specs.rr.domain.DomainName.{DomainName, wire_form}
use Rattle.wire_names.specs.rr.domain.NameOrder.{lower_label, lower_labels, label_cmp, name_eq, SameName}

-- what a name feeds a hasher: its labels in lower case, in wire form, and whether it is fully qualified
abbrev pub name_hash_input : DomainName → List (List ℕ)
name_hash_input name = wire_form (lower_labels name.labels) ∷ fed.bool name.is_fqdn

-- ---- Equal names are the same, and feed the same.

pub then-equal : (o p : Ordering) → ordering_then o p ≡ Equal → (o ≡ Equal) × (p ≡ Equal)
then-equal Less p h = absurd (cc)
then-equal Equal p h = (refl, h)
then-equal Greater p h = absurd (cc)

pub equal_is : (o : Ordering) → is_eq o ≡ true → o ≡ Equal
equal_is Less h = absurd (cc)
equal_is Equal h = refl
equal_is Greater h = absurd (cc)

exact_lists : {K : Type 0} {R : K → K → Ordering} → CmpEqualImpliesEq R → CmpEqualImpliesEq (slice_cmp R)
exact_lists e [] [] h = refl
exact_lists e [] (y ∷ ys) h = absurd (cc)
exact_lists e (x ∷ xs) [] h = absurd (cc)
exact_lists {R = R} e (x ∷ xs) (y ∷ ys) h =
    let t = then-equal (R x y) (slice_cmp R xs ys) h in
    cc (e x y t.0, exact_lists {R = R} e xs ys t.1)

pub map-reverse : {A B : Type 0} (f : A → B) (xs : List A) → map f (reverse xs) ≡ reverse (map f xs)
map-reverse f [] = refl
map-reverse f (x ∷ xs) =
    ap (map f) (reverse-append (x ∷ []) xs) ∙ map-append f (reverse xs) (x ∷ []) ∙ ap (λ r. r ++ f x ∷ []) (map-reverse f xs) ∙ sym (reverse-append (f x ∷ []) (map f xs))

bool-exact : (a b : Bool) → bool_cmp a b ≡ Equal → a ≡ b
bool-exact true true h = refl
bool-exact false false h = refl
bool-exact true false h = absurd (cc)
bool-exact false true h = absurd (cc)

-- labels that tie are the same without case
pub labels_exact : (a b : List (List ℕ)) → slice_cmp label_cmp (reverse a) (reverse b) ≡ Equal → map lower_label a ≡ map lower_label b
labels_exact a b h =
    let e : map lower_label (reverse a) ≡ map lower_label (reverse b) = exact_lists exact_bytes _ _ (lex_map lower_label (slice_cmp nat_cmp) (reverse a) (reverse b) ∙ h) in
    sym (reverse-reverse (map lower_label a)) ∙ ap reverse (sym (map-reverse lower_label a) ∙ e ∙ map-reverse lower_label b) ∙ reverse-reverse (map lower_label b)

pub name_eq_marks : (a b : DomainName) → name_eq a b ≡ true → a.is_fqdn ≡ b.is_fqdn
name_eq_marks a b h = bool-exact _ _ (then-equal _ _ (equal_is _ h)).1

pub same_from_eq : (a b : DomainName) → IsTrue (name_eq a b) → SameName a b
same_from_eq a b h = record { labels = labels_exact a.labels b.labels (then-equal _ _ (equal_is _ h)).0; marks = name_eq_marks a b h }

pub name_hash_alike : (a b : DomainName) → IsTrue (name_eq a b) → name_hash_input a ≡ name_hash_input b
name_hash_alike a b h = let s : SameName a b = same_from_eq a b h in cc (s.labels, s.marks)
