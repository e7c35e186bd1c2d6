-- Order keys compare as the labels that they are made of.
use Rattle.std.proofs.Common.{◌≡◌, ◌↔◌, ℕ, Bool, zero, suc, ◌+◌, ◌-◌, ◌*◌, ◌<◌, ◌≤◌, List, [], ◌∷◌, ◌++◌, length, map, take, drop, get_or, reverse, append_assoc, length-append, length-take, refl, sym, ap, ◌∙◌, subst, arith}
use Rattle.std.specs.declared.cmp.Ordering.{Ordering}
use Rattle.std.specs.declared.cmp.Ordering.TheVariants.{Less, Equal, Greater}
use Rattle.std.specs.Ordering.{nat_cmp, ordering_then}
use Rattle.std.specs.Bool.{IsTrue}
use Rattle.std.specs.Cmp.Lexicographic.{slice_cmp, nat_list_cmp_total}
use Rattle.std.proofs.lemmas.Map.Lookups.{exact_bytes}
use Rattle.std.proofs.lemmas.List.{reverse-append, reverse-reverse, take-append-le, take-append-drop, drop-map}
use Rattle.std.proofs.Math.Seq.{take-length}
use Rattle.std.specs.Cmp.Derive.Mapped.{lex_map}
use Rattle.std.proofs.lemmas.Grind.{common_steps}
use Rattle.wire_names.specs.rr.domain.DomainName.{label_offset, wire_form}
use Rattle.wire_names.specs.rr.domain.NameOrder.{Encloses, lower_label, lower_labels, label_cmp}
use Rattle.wire_names.specs.representation.NameHash.{map-reverse, then-equal}
use Rattle.wire_names.specs.representation.OrderKey.{escaped, key_of_labels, order_key}
use Rattle.wire_names.proofs.lemmas.rr.domain.LabelOrder.{last}
use Rattle.wire_names.proofs.lemmas.rr.domain.SameNames.{same_cmp}

pub escaped_low : (b : ℕ) (bs : List ℕ) → b < 2 → escaped (b ∷ bs) ≡ 1 ∷ (b + 1) ∷ escaped bs
escaped_low zero bs h = refl
escaped_low (suc zero) bs h = refl
escaped_low (suc (suc n)) bs h = absurd (omega arith)

pub escaped_high : (b : ℕ) (bs : List ℕ) → 2 ≤ b → escaped (b ∷ bs) ≡ b ∷ escaped bs
escaped_high zero bs h = absurd (omega arith)
escaped_high (suc zero) bs h = absurd (omega arith)
escaped_high (suc (suc n)) bs h = refl

then_assoc : (o p r : Ordering) → ordering_then (ordering_then o p) r ≡ ordering_then o (ordering_then p r)
then_assoc Less p r = refl
then_assoc Equal p r = refl
then_assoc Greater p r = refl

less : (n m : ℕ) → n < m → nat_cmp n m ≡ Less
less n m h = grind (arith, common_steps)

greater : (n m : ℕ) → m < n → nat_cmp n m ≡ Greater
greater n m h = grind (arith, common_steps)

-- a first byte decides, whatever stands behind it
decides_less : (n m : ℕ) (o : Ordering) → n < m → ordering_then (nat_cmp n m) o ≡ Less
decides_less n m o h = ap (λ p. ordering_then p o) (less n m h)

decides_greater : (n m : ℕ) (o : Ordering) → m < n → ordering_then (nat_cmp n m) o ≡ Greater
decides_greater n m o h = ap (λ p. ordering_then p o) (greater n m h)

-- one label: what stands behind the byte 0 decides only where the labels tie
pub label_then : (x y r s : List ℕ) → slice_cmp nat_cmp (escaped x ++ 0 ∷ r) (escaped y ++ 0 ∷ s) ≡ ordering_then (slice_cmp nat_cmp x y) (slice_cmp nat_cmp r s)
label_then [] [] r s = refl
label_then [] (zero ∷ y) r s = refl
label_then [] (suc zero ∷ y) r s = refl
label_then [] (suc (suc n) ∷ y) r s = decides_less 0 (suc (suc n)) _ (omega arith)
label_then (zero ∷ x) [] r s = refl
label_then (suc zero ∷ x) [] r s = refl
label_then (suc (suc n) ∷ x) [] r s = decides_greater (suc (suc n)) 0 _ (omega arith)
label_then (zero ∷ x) (zero ∷ y) r s = label_then x y r s
label_then (zero ∷ x) (suc zero ∷ y) r s = refl
label_then (zero ∷ x) (suc (suc n) ∷ y) r s =
    decides_less 1 (suc (suc n)) _ (omega arith) ∙ sym (ap (λ o. ordering_then o (slice_cmp nat_cmp r s)) (decides_less 0 (suc (suc n)) (slice_cmp nat_cmp x y) (omega arith)))
label_then (suc zero ∷ x) (zero ∷ y) r s = refl
label_then (suc zero ∷ x) (suc zero ∷ y) r s = label_then x y r s
label_then (suc zero ∷ x) (suc (suc n) ∷ y) r s =
    decides_less 1 (suc (suc n)) _ (omega arith) ∙ sym (ap (λ o. ordering_then o (slice_cmp nat_cmp r s)) (decides_less 1 (suc (suc n)) (slice_cmp nat_cmp x y) (omega arith)))
label_then (suc (suc n) ∷ x) (zero ∷ y) r s =
    decides_greater (suc (suc n)) 1 _ (omega arith) ∙ sym (ap (λ o. ordering_then o (slice_cmp nat_cmp r s)) (decides_greater (suc (suc n)) 0 (slice_cmp nat_cmp x y) (omega arith)))
label_then (suc (suc n) ∷ x) (suc zero ∷ y) r s =
    decides_greater (suc (suc n)) 1 _ (omega arith) ∙ sym (ap (λ o. ordering_then o (slice_cmp nat_cmp r s)) (decides_greater (suc (suc n)) 1 (slice_cmp nat_cmp x y) (omega arith)))
label_then (suc (suc n) ∷ x) (suc (suc m) ∷ y) r s =
    ap (ordering_then (nat_cmp (suc (suc n)) (suc (suc m)))) (label_then x y r s) ∙ sym (then_assoc (nat_cmp (suc (suc n)) (suc (suc m))) (slice_cmp nat_cmp x y) (slice_cmp nat_cmp r s))

nothing_below : (y s : List ℕ) → slice_cmp nat_cmp [] (escaped y ++ 0 ∷ s) ≡ Less
nothing_below [] s = refl
nothing_below (zero ∷ y) s = refl
nothing_below (suc zero ∷ y) s = refl
nothing_below (suc (suc n) ∷ y) s = refl

above_nothing : (x r : List ℕ) → slice_cmp nat_cmp (escaped x ++ 0 ∷ r) [] ≡ Greater
above_nothing [] r = refl
above_nothing (zero ∷ x) r = refl
above_nothing (suc zero ∷ x) r = refl
above_nothing (suc (suc n) ∷ x) r = refl

pub keys_compare : (xs ys : List (List ℕ)) → slice_cmp nat_cmp (key_of_labels xs) (key_of_labels ys) ≡ slice_cmp (slice_cmp nat_cmp) xs ys
keys_compare [] [] = refl
keys_compare [] (y ∷ ys) = nothing_below y (key_of_labels ys)
keys_compare (x ∷ xs) [] = above_nothing x (key_of_labels xs)
keys_compare (x ∷ xs) (y ∷ ys) = label_then x y (key_of_labels xs) (key_of_labels ys) ∙ ap (ordering_then (slice_cmp nat_cmp x y)) (keys_compare xs ys)

-- a key is made of the labels up to one of them, in the last bytes of a room
pub record KeyMade (ls : List (List ℕ)) (place start : ℕ) (room : List ℕ) : Type 0 where
  pub count : ℕ
  pub below : count ≤ length ls
  pub at : place ≡ label_offset ls count
  pub within : start ≤ length room
  pub enough : length room ≤ start + 2 * place
  pub made : drop start room ≡ order_key (take count ls)

pub one_more : (ls : List (List ℕ)) (i : ℕ) → i < length ls → order_key (take (i + 1) ls) ≡ escaped (get_or ls i []) ++ 0 ∷ order_key (take i ls)
one_more ls i h = ap key_of_labels (last ls i h)

keys_append : (xs ys : List (List ℕ)) → key_of_labels (xs ++ ys) ≡ key_of_labels xs ++ key_of_labels ys
keys_append [] ys = refl
keys_append (x ∷ xs) ys = ap (λ r. escaped x ++ 0 ∷ r) (keys_append xs ys) ∙ sym (append_assoc (escaped x) (0 ∷ key_of_labels xs) (key_of_labels ys))

-- the labels at the end of a name stand first in its key
pub key_split : (xs ys : List (List ℕ)) → order_key (xs ++ ys) ≡ order_key ys ++ order_key xs
key_split xs ys = ap key_of_labels (reverse-append xs ys) ∙ keys_append (reverse ys) (reverse xs)

-- the first label of a name stands last in its key
pub first_last : (l : List ℕ) (ls : List (List ℕ)) → order_key (l ∷ ls) ≡ order_key ls ++ (escaped l ++ 0 ∷ [])
first_last l ls = key_split (l ∷ []) ls

-- what is left of a key where the first label of its name is taken off
pub record FirstOff (ls : List (List ℕ)) (key : List ℕ) (count : ℕ) : Type 0 where
  pub fits : count + 1 ≤ length key
  pub rest : take (length key - count - 1) key ≡ order_key (drop 1 ls)

pub first_off : (ls : List (List ℕ)) (wire key : List ℕ) (size count : ℕ) → wire ≡ wire_form ls → 0 < length wire → key ≡ order_key ls
    → size ≡ get_or wire 0 0 → count ≡ length (escaped (take size (drop 1 wire))) → FirstOff ls key count
first_off [] wire key size count w h k s n = absurd (omega (arith, ap length w))
first_off (l ∷ ls) wire key size count w h k s n =
    let len : size ≡ length l = s ∙ ap (λ xs. get_or xs 0 0) w in
    let text : take size (drop 1 wire) ≡ l = ap (λ m. take m (drop 1 wire)) len ∙ ap (λ xs. take (length l) (drop 1 xs)) w ∙ take-append-le (length l) l (wire_form ls) (omega arith) ∙ take-length l in
    let size_of : count ≡ length (escaped l) = n ∙ ap (λ t. length (escaped t)) text in
    let key_is : key ≡ order_key ls ++ (escaped l ++ 0 ∷ []) = k ∙ first_last l ls in
    let long : length key ≡ length (order_key ls) + (length (escaped l) + 1) = ap length key_is ∙ length-append (order_key ls) (escaped l ++ 0 ∷ []) ∙ ap (λ m. length (order_key ls) + m) (length-append (escaped l) (0 ∷ [])) in
    record {
      fits = omega (arith, long, size_of);
      rest = ap (λ m. take m key) (omega (arith, long, size_of)) ∙ ap (take (length (order_key ls))) key_is
          ∙ take-append-le (length (order_key ls)) (order_key ls) (escaped l ++ 0 ∷ []) (omega arith) ∙ take-length (order_key ls);
    }

-- keys of names in lower case compare as their labels do without letter case
pub keys_of_names : (a b : List (List ℕ)) → lower_labels a ≡ a → lower_labels b ≡ b → slice_cmp nat_cmp (order_key a) (order_key b) ≡ slice_cmp label_cmp (reverse a) (reverse b)
keys_of_names a b p q =
    let own : reverse a ≡ map lower_label (reverse a) = ap reverse (sym p) ∙ sym (map-reverse lower_label a) in
    let other : reverse b ≡ map lower_label (reverse b) = ap reverse (sym q) ∙ sym (map-reverse lower_label b) in
    keys_compare (reverse a) (reverse b)
    ∙ ap (λ ls. slice_cmp (slice_cmp nat_cmp) ls (reverse b)) own
    ∙ ap (slice_cmp (slice_cmp nat_cmp) (map lower_label (reverse a))) other
    ∙ lex_map lower_label (slice_cmp nat_cmp) (reverse a) (reverse b)

-- a label in a key ends at its byte 0
label_split : (x y r s : List ℕ) → escaped y ++ 0 ∷ s ≡ escaped x ++ 0 ∷ r → (y ≡ x) × (s ≡ r)
label_split x y r s e =
    let tied : ordering_then (slice_cmp nat_cmp y x) (slice_cmp nat_cmp s r) ≡ Equal =
    sym (label_then y x s r) ∙ ap (λ zs. slice_cmp nat_cmp zs (escaped x ++ 0 ∷ r)) e ∙ same_cmp nat_list_cmp_total (escaped x ++ 0 ∷ r) in
    let t = then-equal (slice_cmp nat_cmp y x) (slice_cmp nat_cmp s r) tied in
    (exact_bytes y x t.0, exact_bytes s r t.1)

-- a key that starts with another one is of labels that start with those of the other
key_starts : (xs ys : List (List ℕ)) (rest : List ℕ) → key_of_labels ys ≡ key_of_labels xs ++ rest → (more : List (List ℕ)) × (ys ≡ xs ++ more)
key_starts [] ys rest e = (ys, refl)
key_starts (x ∷ xs) [] rest e = absurd (omega (arith, ap length e, length-append (escaped x ++ 0 ∷ key_of_labels xs) rest, length-append (escaped x) (0 ∷ key_of_labels xs)))
key_starts (x ∷ xs) (y ∷ ys) rest e =
    let split = label_split x y (key_of_labels xs ++ rest) (key_of_labels ys) (e ∙ append_assoc (escaped x) (0 ∷ key_of_labels xs) rest) in
    let more = key_starts xs ys rest split.1 in
    (more.0, ap (λ l. l ∷ ys) split.0 ∙ ap (λ ls. x ∷ ls) more.1)

-- a name encloses another whose key starts with its own
pub encloses_by_key : (own other : List (List ℕ)) (rest : List ℕ) → lower_labels own ≡ own → lower_labels other ≡ other → order_key other ≡ order_key own ++ rest → Encloses own other
encloses_by_key own other rest p q e =
    let more = key_starts (reverse own) (reverse other) rest e in
    record {
      front = reverse more.0;
      ends = q ∙ sym (reverse-reverse other) ∙ ap reverse more.1 ∙ reverse-append (reverse own) more.0 ∙ ap (λ ls. reverse more.0 ++ ls) (reverse-reverse own ∙ sym p);
    }

-- and the key of another that it encloses starts so
pub key_of_enclosed : (own other : List (List ℕ)) → lower_labels own ≡ own → lower_labels other ≡ other → (h : Encloses own other) → order_key other ≡ order_key own ++ order_key h.front
key_of_enclosed own other p q h = ap order_key (sym q ∙ h.ends ∙ ap (λ ls. h.front ++ ls) p) ∙ key_split h.front own

-- so whether one encloses the other is told by their keys
pub key_encloses : (own other : List (List ℕ)) (key all : List ℕ) (b : Bool) → lower_labels own ≡ own → lower_labels other ≡ other → key ≡ order_key own → all ≡ order_key other → IsTrue b ↔ (take (length key) all ≡ key)
    → IsTrue b ↔ Encloses own other
key_encloses own other key all b p q k a e = (
  λ (h : IsTrue b).
      let is : all ≡ key ++ drop (length key) all = sym (take-append-drop (length key) all) ∙ ap (λ zs. zs ++ drop (length key) all) (e.0 h) in
      encloses_by_key own other (drop (length key) all) p q (sym a ∙ is ∙ ap (λ xs. xs ++ drop (length key) all) k),
  λ (h : Encloses own other).
      let is : all ≡ key ++ order_key h.front = a ∙ key_of_enclosed own other p q h ∙ ap (λ xs. xs ++ order_key h.front) (sym k) in
      e.1 (ap (take (length key)) is ∙ take-append-le (length key) key (order_key h.front) (omega arith) ∙ take-length key),
)

some_labels : (ls : List (List ℕ)) → 0 < length (wire_form ls) → 0 < length ls
some_labels [] h = absurd (omega arith)
some_labels (l ∷ ls) h = omega arith

-- and whether the name right above one encloses another, by the key of the one without its first label
pub parent_encloses : (own other : List (List ℕ)) (wire key all : List ℕ) (count rest : ℕ) (b : Bool) → lower_labels own ≡ own → lower_labels other ≡ other
    → wire ≡ wire_form own → 0 < length wire → FirstOff own key count → rest ≡ length key - count - 1 → all ≡ order_key other → IsTrue b ↔ (take rest all ≡ take rest key)
    → IsTrue b ↔ (0 < length own) × Encloses (drop 1 own) other
parent_encloses own other wire key all count rest b p q w some f is a e =
    let some : 0 < length own = some_labels own (omega (arith, ap length w)) in
    let front = take rest key in
    let size : length front ≡ rest = omega (arith, length-take rest key) in
    let lower : lower_labels (drop 1 own) ≡ drop 1 own = sym (drop-map lower_label 1 own) ∙ ap (drop 1) p in
    let told : IsTrue b ↔ (take (length front) all ≡ front) = subst (λ n. IsTrue b ↔ (take n all ≡ front)) (sym size) e in
    let inside : IsTrue b ↔ Encloses (drop 1 own) other = key_encloses (drop 1 own) other front all b lower q (ap (λ n. take n key) is ∙ f.rest) a told in
    (λ h. (some, inside.0 h), λ h. inside.1 h.1)
