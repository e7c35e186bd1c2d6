-- The labels that two names share at their ends, by the bytes that their keys share at the front.
use Rattle.std.proofs.Common.{◌≡◌, ℕ, Bool, true, false, zero, suc, ◌+◌, ◌-◌, ◌<◌, ◌≤◌, inl, inr, List, [], ◌∷◌, ◌++◌, length, take, drop, get_or, reverse, append_assoc, length-append, length-drop, refl, sym, ap, subst, ◌∙◌, arith}
use Rattle.std.proofs.Math.Seq.{take-append_seam}
use Rattle.std.proofs.lemmas.Bool.{cases_lt}
use Rattle.std.proofs.lemmas.List.{length-take, length-reverse, take_all, take-append-drop, take-append-le, drop-drop, drop-map, drop_more, get_or_append_left, get_or-append_right, get_or_push, get_or-take, reverse-append, take-take, take_more_same}
use Rattle.wire_names.specs.rr.domain.DomainName.{DomainName, wire_form}
use Rattle.wire_names.specs.rr.domain.NameOrder.{Encloses, IsSharedEnd, lower_label, lower_labels}
use Rattle.wire_names.specs.representation.OrderKey.{IsSharedFront, escaped, key_of_labels, order_key}
use Rattle.wire_names.proofs.lemmas.rr.domain.WireForm.{wire-append}
use Rattle.wire_names.proofs.lemmas.rr.domain.OrderKeys.{key_split, first_last, encloses_by_key, key_of_enclosed}

-- no byte of a label is 0 in a key
not_zero : (l : List ℕ) (j : ℕ) → j < length (escaped l) → ¬ (get_or (escaped l ++ 0 ∷ []) j 0 ≡ 0)
not_zero [] j h e = absurd (omega arith)
not_zero (zero ∷ l) zero h e = absurd (omega arith)
not_zero (zero ∷ l) (suc zero) h e = absurd (omega arith)
not_zero (zero ∷ l) (suc (suc j)) h e = not_zero l j (omega arith) e
not_zero (suc zero ∷ l) zero h e = absurd (omega arith)
not_zero (suc zero ∷ l) (suc zero) h e = absurd (omega arith)
not_zero (suc zero ∷ l) (suc (suc j)) h e = not_zero l j (omega arith) e
not_zero (suc (suc n) ∷ l) zero h e = absurd (omega arith)
not_zero (suc (suc n) ∷ l) (suc j) h e = not_zero l j (omega arith) e

-- a key ends with the byte 0
ends_zero : (ls : List (List ℕ)) → get_or (order_key ls) (length (order_key ls) - 1) 0 ≡ 0
ends_zero [] = refl
ends_zero (l ∷ ls) =
    let is : order_key (l ∷ ls) ≡ (order_key ls ++ escaped l) ++ 0 ∷ [] = first_last l ls ∙ sym (append_assoc (order_key ls) (escaped l) (0 ∷ [])) in
    ap (λ (xs : List ℕ). get_or xs (length xs - 1) 0) is ∙ get_or_push (order_key ls ++ escaped l) 0 0 _ (omega (arith, length-append (order_key ls ++ escaped l) (0 ∷ [])))

-- the front of a key that ends with a byte 0 is the key of the labels from one on
record WholeLabels (ls : List (List ℕ)) (count : ℕ) : Type 0 where
  pub dropped : ℕ
  pub below : dropped ≤ length ls
  pub front : take count (order_key ls) ≡ order_key (drop dropped ls)

whole_labels : (ls : List (List ℕ)) (count : ℕ) → count ≤ length (order_key ls) → (0 < count → get_or (order_key ls) (count - 1) 0 ≡ 0) → WholeLabels ls count
whole_labels [] count h zeros = record { dropped = 0; below = omega arith; front = let none : count ≡ 0 = omega arith in ap (λ n. take n (order_key [])) none }
whole_labels (l ∷ ls) count h zeros =
    let is : order_key (l ∷ ls) ≡ order_key ls ++ (escaped l ++ 0 ∷ []) = first_last l ls in
    let long : length (order_key (l ∷ ls)) ≡ length (order_key ls) + (length (escaped l) + 1) =
    ap length is ∙ length-append (order_key ls) (escaped l ++ 0 ∷ []) ∙ ap (λ m. length (order_key ls) + m) (length-append (escaped l) (0 ∷ [])) in
    elim (cases_lt (length (order_key ls)) count) [
      | inl longer ↦
          let last : get_or (escaped l ++ 0 ∷ []) (count - 1 - length (order_key ls)) 0 ≡ 0 =
          sym (get_or-append_right (order_key ls) (escaped l ++ 0 ∷ []) (length (order_key ls)) (count - 1) 0 refl (omega arith)) ∙ ap (λ xs. get_or xs (count - 1) 0) (sym is) ∙ zeros (omega arith) in
          let past : ¬ (count - 1 - length (order_key ls) < length (escaped l)) = λ within. not_zero l _ within last in
          record { dropped = 0; below = omega arith; front = take_all count (order_key (l ∷ ls)) (omega (arith, long, past)) }
      | inr shorter ↦
          let rest : WholeLabels ls count =
          whole_labels ls count shorter (λ some. sym (get_or_append_left (order_key ls) (escaped l ++ 0 ∷ []) 0 (count - 1) (omega arith)) ∙ ap (λ xs. get_or xs (count - 1) 0) (sym is) ∙ zeros some) in
          record { dropped = suc rest.dropped; below = omega (arith, rest.below); front = ap (take count) is ∙ take-append-le count (order_key ls) (escaped l ++ 0 ∷ []) shorter ∙ rest.front }
    ]

each_ends : (ls : List (List ℕ)) → length ls ≤ length (key_of_labels ls)
each_ends [] = omega arith
each_ends (l ∷ ls) = omega (arith, each_ends ls, length-append (escaped l) (0 ∷ key_of_labels ls))

key_of_end : (k : ℕ) (ls : List (List ℕ)) → order_key ls ≡ order_key (drop k ls) ++ order_key (take k ls)
key_of_end k ls = ap order_key (sym (take-append-drop k ls)) ∙ key_split (take k ls) (drop k ls)

-- labels taken off take bytes of the key
key_shrinks : (k : ℕ) (ls : List (List ℕ)) → 0 < k → k ≤ length ls → length (order_key (drop k ls)) < length (order_key ls)
key_shrinks k ls some below =
    omega (arith, ap length (key_of_end k ls), length-append (order_key (drop k ls)) (order_key (take k ls)), each_ends (reverse (take k ls)), length-reverse (take k ls), length-take k ls)

lower_end : (k : ℕ) (ls : List (List ℕ)) → lower_labels ls ≡ ls → lower_labels (drop k ls) ≡ drop k ls
lower_end k ls p = sym (drop-map lower_label k ls) ∙ ap (drop k) p

-- the labels whose key is a shared front
pub record SharedLabels (ls ms : List (List ℕ)) (front : List ℕ) : Type 0 where
  pub dropped : ℕ
  pub some : 0 < dropped
  pub key : front ≡ order_key (drop dropped ls)
  pub encloses : Encloses (drop dropped ls) ms
  pub longest : (k : ℕ) → 0 < k → k < dropped → ¬ (Encloses (drop k ls) ms)

-- a longer end of the name would be the key of a longer front
none_longer : (ls ms : List (List ℕ)) (count n : ℕ) → lower_labels ls ≡ ls → lower_labels ms ≡ ms → IsSharedFront (order_key ls) (order_key ms) count → count ≡ length (order_key (drop n ls)) → n ≤ length ls
    → (k : ℕ) → 0 < k → k < n → ¬ (Encloses (drop k ls) ms)
none_longer ls ms count n p q s size below k some less h =
    let own : List ℕ = order_key (drop k ls) in
    let mine : order_key ls ≡ own ++ order_key (take k ls) = key_of_end k ls in
    let theirs : order_key ms ≡ own ++ order_key h.front = key_of_enclosed (drop k ls) ms (lower_end k ls p) q h in
    let whole : length own < length (order_key ls) = key_shrinks k ls some (omega arith) in
    let off : k + (n - k) ≡ n = omega arith in
    let more : length (order_key (drop (n - k) (drop k ls))) < length own = key_shrinks (n - k) (drop k ls) (omega arith) (omega (arith, length-drop k ls)) in
    let ends : length (order_key (drop (n - k) (drop k ls))) ≡ count = ap (λ zs. length (order_key zs)) (drop-drop (n - k) k ls ∙ ap (λ m. drop m ls) off) ∙ sym size in
    let all : length own - 1 + 1 ≡ length own = omega (arith, more) in
    let zeros : get_or (order_key ls) (length own - 1) 0 ≡ 0 =
    ap (λ xs. get_or xs (length own - 1) 0) mine ∙ get_or_append_left own (order_key (take k ls)) 0 (length own - 1) (omega (arith, more)) ∙ ends_zero (drop k ls) in
    s.longest (length own - 1) (omega (arith, more, ends)) (omega (arith, whole, all)) zeros
    (ap (λ m. take m (order_key ls)) all ∙ ap (take (length own)) mine ∙ take-append_seam own (order_key (take k ls))
    ∙ sym (ap (λ m. take m (order_key ms)) all ∙ ap (take (length own)) theirs ∙ take-append_seam own (order_key h.front)))

by_front : (ls ms : List (List ℕ)) (count : ℕ) → lower_labels ls ≡ ls → lower_labels ms ≡ ms → IsSharedFront (order_key ls) (order_key ms) count → SharedLabels ls ms (take count (order_key ls))
by_front [] ms count p q s = record {
  dropped = 1;
  some = omega arith;
  key = let none : count ≡ 0 = omega (arith, s.within) in ap (λ n. take n (order_key [])) none;
  encloses = encloses_by_key [] ms (order_key ms) refl q refl;
  longest = λ k some less. absurd (omega arith);
}
by_front (l ∷ ls) ms count p q s =
    let w : WholeLabels (l ∷ ls) count = whole_labels (l ∷ ls) count s.within s.whole in
    let size : count ≡ length (order_key (drop w.dropped (l ∷ ls))) = omega (arith, ap length w.front, length-take count (order_key (l ∷ ls)), s.within) in
    let filled : 0 < length (order_key (l ∷ ls)) = omega (arith, each_ends (reverse (l ∷ ls)), length-reverse (l ∷ ls)) in
    let some : 0 < w.dropped =
    elim (cases_lt 0 w.dropped) [
      | inl some ↦ some
      | inr none ↦ let zeros : w.dropped ≡ 0 = omega arith in absurd (omega (arith, size, ap (λ n. length (order_key (drop n (l ∷ ls)))) zeros, s.short filled))
    ] in
    record {
      dropped = w.dropped;
      some = some;
      key = w.front;
      encloses = encloses_by_key (drop w.dropped (l ∷ ls)) ms (drop count (order_key ms)) (lower_end w.dropped (l ∷ ls) p) q
          (sym (take-append-drop count (order_key ms)) ∙ ap (λ xs. xs ++ drop count (order_key ms)) (sym s.shared ∙ w.front));
      longest = none_longer (l ∷ ls) ms count w.dropped p q s size w.below;
    }

pub shared_labels : (ls ms : List (List ℕ)) (key other front : List ℕ) (count : ℕ) → lower_labels ls ≡ ls → lower_labels ms ≡ ms → key ≡ order_key ls → other ≡ order_key ms → IsSharedFront key other count → front ≡ take count key
    → SharedLabels ls ms front
shared_labels ls ms key other front count p q k o s f =
    subst (SharedLabels ls ms) (sym (f ∙ ap (take count) k))
    (by_front ls ms count p q (subst (λ (xs : List ℕ). IsSharedFront xs (order_key ms) count) k (subst (λ (ys : List ℕ). IsSharedFront key ys count) o s)))

pub shared_lower : (ls ms : List (List ℕ)) (front : List ℕ) (s : SharedLabels ls ms front) → lower_labels ls ≡ ls → (left : List (List ℕ)) → left ≡ drop s.dropped ls → (lower_labels left ≡ left) × (front ≡ order_key left)
shared_lower ls ms front s p left e = (ap lower_labels e ∙ lower_end s.dropped ls p ∙ sym e, s.key ∙ ap order_key (sym e))

pub shared_end : (name other end : DomainName) (front : List ℕ) (s : SharedLabels name.labels other.labels front) → end ≡ record name { labels = drop s.dropped name.labels } → IsSharedEnd name other end
shared_end name other end front s e = record {
  count = s.dropped;
  some = s.some;
  ends = e;
  encloses = subst (λ (d : DomainName). Encloses d.labels other.labels) (sym e) s.encloses;
  longest = s.longest;
}

-- how many bytes of labels stand in bytes of a key, and whether the first one stands behind a byte 1
abbrev pub unescaped_len : Bool → List ℕ → ℕ
unescaped_len behind [] = 0
unescaped_len true (b ∷ bs) = unescaped_len false bs
unescaped_len false (zero ∷ bs) = suc (unescaped_len false bs)
unescaped_len false (suc zero ∷ bs) = suc (unescaped_len true bs)
unescaped_len false (suc (suc n) ∷ bs) = suc (unescaped_len false bs)

behind_one : (bs : List ℕ) → unescaped_len true bs ≡ unescaped_len false (drop 1 bs)
behind_one [] = refl
behind_one (b ∷ bs) = refl

not_one : (b : ℕ) (bs : List ℕ) → ¬ (b ≡ 1) → unescaped_len false (b ∷ bs) ≡ suc (unescaped_len false bs)
not_one zero bs h = refl
not_one (suc zero) bs h = absurd (h refl)
not_one (suc (suc n)) bs h = refl

-- a byte 1 and the one behind it are passed as one
pub passes_two : (bytes : List ℕ) (place : ℕ) → place < length bytes → get_or bytes place 0 ≡ 1 → unescaped_len false (drop place bytes) ≡ suc (unescaped_len false (drop (place + 2) bytes))
passes_two bytes place h e =
    let two : place + 1 + 1 ≡ place + 2 = omega arith in
    ap (unescaped_len false) (drop_more bytes place 0 h ∙ ap (λ b. b ∷ drop (place + 1) bytes) e)
    ∙ ap suc (behind_one (drop (place + 1) bytes) ∙ ap (unescaped_len false) (drop-drop 1 (place + 1) bytes ∙ ap (λ n. drop n bytes) two))

pub passes_one : (bytes : List ℕ) (place : ℕ) → place < length bytes → ¬ (get_or bytes place 0 ≡ 1) → unescaped_len false (drop place bytes) ≡ suc (unescaped_len false (drop (place + 1) bytes))
passes_one bytes place h e = ap (unescaped_len false) (drop_more bytes place 0 h) ∙ not_one (get_or bytes place 0) (drop (place + 1) bytes) e

label_size : (l rest : List ℕ) → unescaped_len false (escaped l ++ 0 ∷ rest) ≡ length l + suc (unescaped_len false rest)
label_size [] rest = omega arith
label_size (zero ∷ l) rest = omega (arith, label_size l rest)
label_size (suc zero ∷ l) rest = omega (arith, label_size l rest)
label_size (suc (suc n) ∷ l) rest = omega (arith, label_size l rest)

key_size : (ls : List (List ℕ)) → unescaped_len false (key_of_labels ls) ≡ length (wire_form ls)
key_size [] = refl
key_size (l ∷ ls) = omega (arith, label_size l (key_of_labels ls), key_size ls, length-append l (wire_form ls))

backwards_size : (ls : List (List ℕ)) → length (wire_form (reverse ls)) ≡ length (wire_form ls)
backwards_size [] = refl
backwards_size (l ∷ ls) =
    omega (arith, ap (λ zs. length (wire_form zs)) (reverse-append (l ∷ []) ls), ap length (wire-append (reverse ls) (l ∷ [])), length-append (wire_form (reverse ls)) (wire_form (l ∷ [])), length-append l [], length-append l (wire_form ls), backwards_size ls)

-- a key has the bytes of its labels in wire form
pub unescaped_key : (ls : List (List ℕ)) → unescaped_len false (order_key ls) ≡ length (wire_form ls)
unescaped_key ls = key_size (reverse ls) ∙ backwards_size ls

-- two keys are the same up to a place, and their last whole label before it ends at the count
pub record SharedUpTo (key other : List ℕ) (count place : ℕ) : Type 0 where
  pub below : count ≤ place
  pub within : place ≤ length key
  pub short : 0 < length key → place < length key
  pub same : take place key ≡ take place other
  pub whole : 0 < count → get_or key (count - 1) 0 ≡ 0
  pub none : (k : ℕ) → count ≤ k → k < place → ¬ (get_or key k 0 ≡ 0)

pub none_shared : (key other : List ℕ) → SharedUpTo key other 0 0
none_shared key other = record { below = omega arith; within = omega arith; short = λ h. h; same = refl; whole = λ h. absurd (omega arith); none = λ k p q. absurd (omega arith) }

-- one byte more is the same and ends a label
pub label_shared : (key other : List ℕ) (count place : ℕ) → SharedUpTo key other count place → place + 1 < length key → place < length other → get_or key place 0 ≡ get_or other place 0 → get_or key place 0 ≡ 0
    → SharedUpTo key other (place + 1) (place + 1)
label_shared key other count place s h i same zeros = record {
  below = omega arith;
  within = omega arith;
  short = λ some. h;
  same = take_more_same key other place 0 (omega arith) i s.same same;
  whole = λ some. let back : place + 1 - 1 ≡ place = omega arith in ap (λ k. get_or key k 0) back ∙ zeros;
  none = λ k p q. absurd (omega arith);
}

-- or ends none
pub byte_shared : (key other : List ℕ) (count place : ℕ) → SharedUpTo key other count place → place + 1 < length key → place < length other → get_or key place 0 ≡ get_or other place 0 → ¬ (get_or key place 0 ≡ 0)
    → SharedUpTo key other count (place + 1)
byte_shared key other count place s h i same apart = record {
  below = omega (arith, s.below);
  within = omega arith;
  short = λ some. h;
  same = take_more_same key other place 0 (omega arith) i s.same same;
  whole = s.whole;
  none = λ k p q.
      elim (cases_lt k place) [
        | inl before ↦ s.none k p before
        | inr at ↦ λ (e : get_or key k 0 ≡ 0). let here : place ≡ k = omega arith in apart (ap (λ n. get_or key n 0) here ∙ e)
      ];
}

-- where the walk stops no greater number of bytes is shared
pub shared_front : (key other : List ℕ) (count place : ℕ) → SharedUpTo key other count place → (place + 1 < length key → place < length other → ¬ (get_or key place 0 ≡ get_or other place 0)) → IsSharedFront key other count
shared_front key other count place s stops = record {
  within = omega (arith, s.below, s.within);
  short = λ some. omega (arith, s.below, s.short some);
  shared = sym (take-take count place key s.below) ∙ ap (take count) s.same ∙ take-take count place other s.below;
  whole = s.whole;
  longest = λ k p q zeros same.
      elim (cases_lt k place) [
        | inl before ↦ s.none k p before zeros
        | inr past ↦
            let reach : k < length other = omega (arith, ap length same, length-take (k + 1) key, length-take (k + 1) other) in
            stops (omega arith) (omega (arith, reach)) (sym (get_or-take (k + 1) key place 0 (omega arith)) ∙ ap (λ xs. get_or xs place 0) same ∙ get_or-take (k + 1) other place 0 (omega arith))
      ];
}
