-- Labels compared from the last on.
use Rattle.std.proofs.Common.{◌≡◌, ℕ, ◌+◌, ◌-◌, ◌<◌, ◌≤◌, List, [], ◌∷◌, length, take, drop, get_or, reverse, refl, sym, ap, ◌∙◌, subst, arith}
use Rattle.std.specs.declared.cmp.Ordering.{Ordering}
use Rattle.std.specs.declared.cmp.Ordering.TheVariants.{Less, Equal, Greater}
use Rattle.std.specs.Ordering.{nat_cmp, ordering_then}
use Rattle.std.specs.Cmp.Lexicographic.{slice_cmp}
use Rattle.std.proofs.lemmas.List.{reverse-append, take_more, length-reverse, length-take}
use Rattle.std.proofs.lemmas.Grind.{common_steps}
use Rattle.wire_names.specs.rr.domain.DomainName.{wire_form, cut, IsWire, label_offset}
use Rattle.wire_names.proofs.lemmas.rr.domain.WireForm.{Step, step, step_below}

-- a label stands at a place
pub record Site (bytes : List ℕ) (start : ℕ) (text : List ℕ) : Type 0 where
  pub within : start < length bytes
  pub fits : start + 1 + get_or bytes start 0 ≤ length bytes
  pub label : take (get_or bytes start 0) (drop (start + 1) bytes) ≡ text

site_wire : (ls : List (List ℕ)) (i start : ℕ) → i < length ls → start ≡ label_offset ls i → Site (wire_form ls) start (get_or ls i [])
site_wire ls i start h e =
    let s : Step ls i = step_below ls i h in
    let count : get_or (wire_form ls) start 0 ≡ length (get_or ls i []) = ap (λ k. get_or (wire_form ls) k 0) e ∙ s.count in
    record {
      within = omega (arith, s.next, s.fits);
      fits = omega (arith, s.next, s.fits);
      label = ap (λ n. take n (drop (start + 1) (wire_form ls))) count ∙ ap (λ k. take (length (get_or ls i [])) (drop (k + 1) (wire_form ls))) e ∙ s.label;
    }

pub site : (bytes : List ℕ) → IsWire bytes → (i start : ℕ) → i < length (cut bytes) → start ≡ label_offset (cut bytes) i → Site bytes start (get_or (cut bytes) i [])
site bytes w i start h e = subst (λ b. Site b start (get_or (cut bytes) i [])) w.whole (site_wire (cut bytes) i start h e)

pub record Advance (bytes : List ℕ) (i place : ℕ) : Type 0 where
  pub below : i < length (cut bytes)
  pub next : place + (1 + get_or bytes place 0) ≡ label_offset (cut bytes) (i + 1)
  pub fits : place + (1 + get_or bytes place 0) ≤ length bytes

pub advance : (bytes : List ℕ) → IsWire bytes → (i place : ℕ) → place ≡ label_offset (cut bytes) i → place < length bytes → Advance bytes i place
advance bytes w i place e h =
    let size = ap length w.whole in
    let s : Step (cut bytes) i = step (cut bytes) i (omega arith) in
    let count : get_or bytes place 0 ≡ length (get_or (cut bytes) i []) = ap (λ xs. get_or xs place 0) (sym w.whole) ∙ ap (λ k. get_or (wire_form (cut bytes)) k 0) e ∙ s.count in
    record { below = s.below; next = omega (arith, s.next); fits = omega (arith, s.next, s.fits) }

pub last : (xs : List (List ℕ)) (i : ℕ) → i < length xs → reverse (take (i + 1) xs) ≡ get_or xs i [] ∷ reverse (take i xs)
last xs i h = ap reverse (take_more xs i [] h) ∙ reverse-append (take i xs) (get_or xs i [] ∷ [])

pub back_step : (R : List ℕ → List ℕ → Ordering) (xs ys : List (List ℕ)) (i j : ℕ) → 0 < i → 0 < j → i ≤ length xs → j ≤ length ys
    → slice_cmp R (reverse (take i xs)) (reverse (take j ys)) ≡ ordering_then (R (get_or xs (i - 1) []) (get_or ys (j - 1) [])) (slice_cmp R (reverse (take (i - 1) xs)) (reverse (take (j - 1) ys)))
back_step R xs ys i j p q h k =
    let ei : i ≡ i - 1 + 1 = omega arith in
    let ej : j ≡ j - 1 + 1 = omega arith in
    ap (λ zs. slice_cmp R zs (reverse (take j ys))) (ap (λ n. reverse (take n xs)) ei ∙ last xs (i - 1) (omega arith))
    ∙ ap (λ zs. slice_cmp R (get_or xs (i - 1) [] ∷ reverse (take (i - 1) xs)) zs) (ap (λ n. reverse (take n ys)) ej ∙ last ys (j - 1) (omega arith))

pub then-first : (o r : Ordering) → (o ≡ Equal → ⊥) → ordering_then o r ≡ o
then-first Less r h = refl
then-first Equal r h = absurd (h refl)
then-first Greater r h = refl

cmp_nil : (R : List ℕ → List ℕ → Ordering) (zs : List (List ℕ)) → nat_cmp 0 (length zs) ≡ slice_cmp R [] zs
cmp_nil R [] = refl
cmp_nil R (z ∷ zs) = grind (arith, common_steps)

nil_cmp : (R : List ℕ → List ℕ → Ordering) (zs : List (List ℕ)) → nat_cmp (length zs) 0 ≡ slice_cmp R zs []
nil_cmp R [] = refl
nil_cmp R (z ∷ zs) = grind (arith, common_steps)

shown : (xs : List (List ℕ)) (i : ℕ) → i ≤ length xs → i ≡ length (reverse (take i xs))
shown xs i h = omega (arith, length-reverse (take i xs), length-take i xs)

pub first_out : (R : List ℕ → List ℕ → Ordering) (xs ys : List (List ℕ)) (i j : ℕ) → i ≡ 0 → j ≤ length ys → nat_cmp i j ≡ slice_cmp R (reverse (take i xs)) (reverse (take j ys))
first_out R xs ys i j e h =
    ap (λ n. nat_cmp n j) e ∙ ap (nat_cmp 0) (shown ys j h) ∙ cmp_nil R (reverse (take j ys)) ∙ ap (λ n. slice_cmp R (reverse (take n xs)) (reverse (take j ys))) (sym e)

pub second_out : (R : List ℕ → List ℕ → Ordering) (xs ys : List (List ℕ)) (i j : ℕ) → j ≡ 0 → i ≤ length xs → nat_cmp i j ≡ slice_cmp R (reverse (take i xs)) (reverse (take j ys))
second_out R xs ys i j e h =
    ap (nat_cmp i) e ∙ ap (λ n. nat_cmp n 0) (shown xs i h) ∙ nil_cmp R (reverse (take i xs)) ∙ ap (λ n. slice_cmp R (reverse (take i xs)) (reverse (take n ys))) (sym e)
