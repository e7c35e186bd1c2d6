-- Labels at the end of others.
use Rattle.std.proofs.Common.{◌≡◌, ◌↔◌, ◌⊎◌, inl, inr, ℕ, zero, suc, ◌+◌, ◌<◌, ◌≤◌, Bool, true, false, ◌&&◌, ◌||◌, List, [], ◌∷◌, ◌++◌, length, map, drop, get_or, refl, sym, ap, ◌∙◌, subst, arith, length-append}
use Rattle.std.specs.Ordering.{nat_cmp, eq_by_cmp, is_eq}
use Rattle.std.specs.Char.{to_ascii_lowercase}
use Rattle.std.specs.Cmp.Lexicographic.{slice_cmp, nat_list_cmp_total}
use Rattle.std.specs.List.{AllByRecursion}
use Rattle.std.proofs.lemmas.Map.Lookups.{exact_bytes}
use Rattle.std.proofs.lemmas.List.{length-map, get_or-drop, drop_at}
use Rattle.std.proofs.Math.Seq.{drop-nil}
use Rattle.std.proofs.lemmas.List.Elements.{recursion_from_All, All-from_recursion}
use Rattle.std.specs.Str.{bytes_eq}
use Rattle.wire_names.specs.rr.domain.DomainName.{wire_form, cut, IsLabel, AreLabels, IsWire}
use Rattle.std.specs.Bool.{IsTrue}
use Rattle.wire_names.specs.rr.domain.NameOrder.{lower_label, lower_labels, label_cmp, same_labels, encloses, Encloses}
use Rattle.wire_names.proofs.lemmas.rr.domain.WireForm.{name_len-wire_form, is_wire_of, cut_of}
use Rattle.wire_names.specs.representation.NameHash.{equal_is}
use Rattle.wire_names.proofs.lemmas.rr.domain.SameNames.{lower-wire, lower-wire_all, wire-same, both_ways, eq_is, eq_from, same_cmp, is_false}

and_parts : (a b : Bool) → (a && b) ≡ true → (a ≡ true) × (b ≡ true)
and_parts true b h = (refl, h)
and_parts false b h = absurd (cc)

drop_drop : (a b : ℕ) (xs : List ℕ) → drop b (drop a xs) ≡ drop (a + b) xs
drop_drop zero b xs = let e : b ≡ 0 + b = omega arith in ap (λ n. drop n xs) e
drop_drop (suc a) b [] = drop-nil b ∙ sym (drop-nil (suc a + b))
drop_drop (suc a) b (x ∷ xs) = let e : suc (a + b) ≡ suc a + b = omega arith in drop_drop a b xs ∙ ap (λ n. drop n (x ∷ xs)) e

or_false : (b : Bool) → b ≡ (b || false)
or_false true = refl
or_false false = refl

folded : (a b : List (List ℕ)) → same_labels a b ≡ true → map lower_label a ≡ map lower_label b
folded [] [] h = refl
folded [] (y ∷ ys) h = absurd (cc)
folded (x ∷ xs) [] h = absurd (cc)
folded (x ∷ xs) (y ∷ ys) h =
    let p = and_parts (eq_by_cmp label_cmp x y) (same_labels xs ys) h in
    cc (exact_bytes (lower_label x) (lower_label y) (equal_is _ p.0), folded xs ys p.1)

heads : (x y : List ℕ) (xs ys : List (List ℕ)) → lower_label x ∷ map lower_label xs ≡ lower_label y ∷ map lower_label ys → (lower_label x ≡ lower_label y) × (map lower_label xs ≡ map lower_label ys)
heads x y xs ys h = (cc, cc)

unfolded : (a b : List (List ℕ)) → map lower_label a ≡ map lower_label b → same_labels a b ≡ true
unfolded [] [] h = refl
unfolded [] (y ∷ ys) h = absurd (cc)
unfolded (x ∷ xs) [] h = absurd (cc)
unfolded (x ∷ xs) (y ∷ ys) h =
    let p = heads x y xs ys h in
    let first : eq_by_cmp label_cmp x y ≡ true = ap (λ z. is_eq (slice_cmp nat_cmp z (lower_label y))) p.0 ∙ ap is_eq (same_cmp nat_list_cmp_total (lower_label y)) in
    ap (λ b. b && same_labels xs ys) first ∙ unfolded xs ys p.1

pub same_flat : (a b : List (List ℕ)) → AllByRecursion IsLabel a → AllByRecursion IsLabel b → same_labels a b ≡ bytes_eq (map to_ascii_lowercase (wire_form a)) (map to_ascii_lowercase (wire_form b))
same_flat a b p q = both_ways _ _
    (λ h. eq_from _ _ (lower-wire_all a p ∙ ap wire_form (folded a b h) ∙ sym (lower-wire_all b q)))
    (λ h. unfolded a b (wire-same _ _ (sym (lower-wire_all a p) ∙ eq_is _ _ h ∙ lower-wire_all b q)))

or_parts : (a b : Bool) → (a || b) ≡ true → (a ≡ true) ⊎ (b ≡ true)
or_parts true b h = inl refl
or_parts false b h = inr h

or_first : (a b : Bool) → a ≡ true → (a || b) ≡ true
or_first true b h = refl
or_first false b h = absurd (cc)

or_second : (a b : Bool) → b ≡ true → (a || b) ≡ true
or_second true b h = refl
or_second false b h = h

ends-same : (ns ms : List (List ℕ)) → lower_labels ms ≡ lower_labels ns → encloses ns ms ≡ true
ends-same ns [] h = unfolded ns [] (sym h)
ends-same ns (m ∷ ms) h = or_first (same_labels ns (m ∷ ms)) (encloses ns ms) (unfolded ns (m ∷ ms) (sym h))

ends-encloses : (ns ms : List (List ℕ)) → encloses ns ms ≡ true → Encloses ns ms
ends-encloses ns [] h = record { front = []; ends = sym (folded ns [] h) }
ends-encloses ns (m ∷ ms) h = elim (or_parts (same_labels ns (m ∷ ms)) (encloses ns ms) h) [
  | inl same ↦ record { front = []; ends = sym (folded ns (m ∷ ms) same) }
  | inr more ↦ let e : Encloses ns ms = ends-encloses ns ms more in record { front = lower_label m ∷ e.front; ends = ap (λ ls. lower_label m ∷ ls) e.ends }
]

encloses-ends : (ns ms front : List (List ℕ)) → lower_labels ms ≡ front ++ lower_labels ns → encloses ns ms ≡ true
encloses-ends ns ms [] h = ends-same ns ms h
encloses-ends ns [] (f ∷ fs) h = absurd (cc)
encloses-ends ns (m ∷ ms) (f ∷ fs) h = or_second (same_labels ns (m ∷ ms)) (encloses ns ms) (encloses-ends ns ms fs cc)

pub ends-decides : (ns ms : List (List ℕ)) (b : Bool) → b ≡ encloses ns ms → IsTrue b ↔ Encloses ns ms
ends-decides ns ms b e = (λ h. ends-encloses ns ms (sym e ∙ h), λ k. e ∙ encloses-ends ns ms k.front k.ends)

folded-size : (a : List (List ℕ)) → length (wire_form (map lower_label a)) ≡ length (wire_form a)
folded-size [] = refl
folded-size (l ∷ ls) = omega (arith, length-append (lower_label l) (wire_form (map lower_label ls)), length-append l (wire_form ls), length-map l to_ascii_lowercase, folded-size ls)

same-size : (a b : List (List ℕ)) → same_labels a b ≡ true → length (wire_form a) ≡ length (wire_form b)
same-size a b h = sym (folded-size a) ∙ ap (λ ls. length (wire_form ls)) (folded a b h) ∙ folded-size b

pub differs : (a b : List (List ℕ)) → (length (wire_form a) ≡ length (wire_form b) → ⊥) → same_labels a b ≡ false
differs a b h = is_false (same_labels a b) (λ e. h (same-size a b e))

pub too_long : (ns ms : List (List ℕ)) → length (wire_form ms) < length (wire_form ns) → encloses ns ms ≡ false
too_long ns [] h = differs ns [] (λ e. omega arith)
too_long ns (m ∷ ms) h =
    ap (λ b. b || encloses ns ms) (differs ns (m ∷ ms) (λ e. omega arith)) ∙ too_long ns ms (omega (arith, length-append m (wire_form ms)))

-- no more than as many bytes are left
pub ends_here : (ns ms : List (List ℕ)) → AllByRecursion IsLabel ns → AllByRecursion IsLabel ms → length (wire_form ms) ≤ length (wire_form ns) → bytes_eq (map to_ascii_lowercase (wire_form ns)) (map to_ascii_lowercase (wire_form ms)) ≡ encloses ns ms
ends_here ns [] p q h = sym (same_flat ns [] p q)
ends_here ns (m ∷ ms) p q h =
    sym (same_flat ns (m ∷ ms) p q) ∙ or_false (same_labels ns (m ∷ ms)) ∙ ap (λ b. same_labels ns (m ∷ ms) || b) (sym (too_long ns ms (omega (arith, length-append m (wire_form ms)))))

-- the labels that are left at a place, where the names that are looked for end both the whole and these
pub record Left (ns all : List (List ℕ)) (bytes : List ℕ) (place : ℕ) : Type 0 where
  pub labels : List (List ℕ)
  pub stand : drop place bytes ≡ wire_form labels
  pub are : AllByRecursion IsLabel labels
  pub size : place + length (wire_form labels) ≡ length bytes
  pub same : encloses ns labels ≡ encloses ns all

pub record Next (ns all : List (List ℕ)) (bytes : List ℕ) (place n : ℕ) : Type 0 where
  pub left : Left ns all bytes (place + (1 + n))
  pub fits : place + (1 + n) ≤ length bytes

step_on : (ns all : List (List ℕ)) (bytes : List ℕ) (place : ℕ) (labels : List (List ℕ)) → drop place bytes ≡ wire_form labels → AllByRecursion IsLabel labels → place + length (wire_form labels) ≡ length bytes
    → encloses ns labels ≡ encloses ns all → length (wire_form ns) < length (wire_form labels) → Next ns all bytes place (get_or bytes place 0)
step_on ns all bytes place [] stand are size same more = absurd (omega arith)
step_on ns all bytes place (l ∷ ls) stand are size same more =
    let here : place ≡ place + 0 = omega arith in
    let count : get_or bytes place 0 ≡ length l = ap (λ k. get_or bytes k 0) here ∙ sym (get_or-drop place bytes 0 0) ∙ ap (λ xs. get_or xs 0 0) stand in
    let behind : drop (place + (1 + length l)) bytes ≡ wire_form ls = sym (drop_drop place (1 + length l) bytes) ∙ ap (drop (1 + length l)) stand ∙ drop_at (length l ∷ l) (wire_form ls) (1 + length l) (omega arith) in
    let long : length (wire_form (l ∷ ls)) ≡ 1 + length l + length (wire_form ls) = omega (arith, length-append l (wire_form ls)) in
    let left : Left ns all bytes (place + (1 + length l)) = record {
      labels = ls;
      stand = behind;
      are = are.1;
      size = omega arith;
      same = ap (λ b. b || encloses ns ls) (sym (differs ns (l ∷ ls) (λ e. omega arith))) ∙ same;
    } in
    subst (λ n. Next ns all bytes place n) (sym count) (record { left = left; fits = omega arith })

pub goes_on : (ns all : List (List ℕ)) (bytes : List ℕ) (place : ℕ) → Left ns all bytes place → place + length (wire_form ns) < length bytes → Next ns all bytes place (get_or bytes place 0)
goes_on ns all bytes place l h = step_on ns all bytes place l.labels l.stand l.are l.size l.same (omega (arith, l.size))

all-lower : (ls : List (List ℕ)) → AllByRecursion IsLabel ls → AllByRecursion IsLabel (map lower_label ls)
all-lower [] h = tt
all-lower (l ∷ ls) h = ((omega (arith, h.0, length-map l to_ascii_lowercase), omega (arith, h.0, length-map l to_ascii_lowercase)), all-lower ls h.1)

pub are-lower : (ls : List (List ℕ)) → AreLabels ls → AreLabels (map lower_label ls)
are-lower ls are = record { each = All-from_recursion IsLabel (map lower_label ls) (all-lower ls (recursion_from_All IsLabel ls are.each)); short = omega (arith, folded-size ls, are.short, name_len-wire_form ls, name_len-wire_form (map lower_label ls)) }

-- bytes in lower case have the labels in lower case
pub lowered_wire : (bytes lowered : List ℕ) → IsWire bytes → lowered ≡ map to_ascii_lowercase bytes → IsWire lowered × (cut lowered ≡ lower_labels (cut bytes))
lowered_wire bytes lowered w e =
    let same : lowered ≡ wire_form (lower_labels (cut bytes)) = e ∙ ap (map to_ascii_lowercase) (sym w.whole) ∙ lower-wire (cut bytes) w.are in
    (is_wire_of lowered (lower_labels (cut bytes)) same (are-lower (cut bytes) w.are), cut_of lowered (lower_labels (cut bytes)) same)
