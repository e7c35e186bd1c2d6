-- Bytes compared as numbers, several at a time.
use Rattle.std.proofs.Common.{◌≡◌, ℕ, zero, suc, ◌+◌, ◌*◌, ◌<◌, ◌≤◌, List, [], ◌∷◌, length, ◌++◌, min, take, drop, get_or, refl, sym, ap, ◌∙◌, subst, arith}
use Rattle.std.specs.declared.cmp.Ordering.{Ordering}
use Rattle.std.specs.declared.cmp.Ordering.TheVariants.{Less, Equal, Greater}
use Rattle.std.specs.Ordering.{nat_cmp, ordering_then, MatchOrdering}
use Rattle.std.specs.Cmp.{nat_cmp_is}
use Rattle.std.specs.Cmp.Lexicographic.{slice_cmp}
use Rattle.std.specs.Slice.Scan.{big_endian}
use Rattle.std.proofs.lemmas.Cmp.{ranked}
use Rattle.std.proofs.lemmas.List.{get_or-drop, length-drop, take-take}
use Rattle.std.proofs.Math.Seq.{take-add}
use Rattle.wire_names.specs.serialize.layout.Bytes.{AreBytes}

-- of numbers read on, the one that was greater before stays so
stays_less : (n a b : ℕ) (xs ys : List ℕ) → n ≤ length xs → n ≤ length ys → AreBytes xs → a < b → big_endian a (take n xs) < big_endian b (take n ys)
stays_less zero a b xs ys p q s l = l
stays_less (suc n) a b [] ys p q s l = absurd (omega arith)
stays_less (suc n) a b (x ∷ xs) [] p q s l = absurd (omega arith)
stays_less (suc n) a b (x ∷ xs) (y ∷ ys) p q s l =
    let small : x < 256 = s 0 in
    stays_less n (a * 256 + x) (b * 256 + y) xs ys (omega arith) (omega arith) (λ k. s (suc k)) (omega arith)

pub less_is : (a b : ℕ) → a < b → nat_cmp a b ≡ Less
less_is a b l = sym (nat_cmp_is a b Less l)

pub greater_is : (a b : ℕ) → b < a → nat_cmp a b ≡ Greater
greater_is a b l = sym (nat_cmp_is a b Greater l)

equal_is : (a : ℕ) → nat_cmp a a ≡ Equal
equal_is a = sym (nat_cmp_is a a Equal refl)

-- The first n bytes of two lists, read as numbers, decide where these differ; where they do not, the bytes are the
-- same.
pub record Words (xs ys : List ℕ) (n v w : ℕ) : Type 0 where
  pub apart : (v ≡ w → ⊥) → slice_cmp nat_cmp xs ys ≡ nat_cmp v w
  pub alike : v ≡ w → take n xs ≡ take n ys

-- one byte more in front of each
one_more : (n a x y : ℕ) (xs ys : List ℕ) → n ≤ length xs → n ≤ length ys → x < 256 → y < 256 → AreBytes xs → AreBytes ys
    → Words xs ys n (big_endian (a * 256 + x) (take n xs)) (big_endian (a * 256 + x) (take n ys))
    → (o : Ordering) → nat_cmp x y ≡ o → MatchOrdering o (x < y) (x ≡ y) (y < x)
    → Words (x ∷ xs) (y ∷ ys) (suc n) (big_endian (a * 256 + x) (take n xs)) (big_endian (a * 256 + y) (take n ys))
one_more n a x y xs ys p q sx sy s t rest Less is l =
    let below : x < y = l in
    let less = stays_less n (a * 256 + x) (a * 256 + y) xs ys p q s (omega arith) in
    record { apart = λ f. ap (λ o. ordering_then o (slice_cmp nat_cmp xs ys)) is ∙ sym (less_is _ _ less); alike = λ e. absurd (omega arith) }
one_more n a x y xs ys p q sx sy s t rest Equal is l =
    let level : x ≡ y = l in
    let both : Words xs ys n (big_endian (a * 256 + x) (take n xs)) (big_endian (a * 256 + y) (take n ys)) =
    subst (λ z. Words xs ys n (big_endian (a * 256 + x) (take n xs)) (big_endian (a * 256 + z) (take n ys))) level rest in
    record {
      apart = λ f. ap (λ o. ordering_then o (slice_cmp nat_cmp xs ys)) is ∙ both.apart f;
      alike = λ e. ap (λ z. z ∷ take n xs) level ∙ ap (λ zs. y ∷ zs) (both.alike e);
    }
one_more n a x y xs ys p q sx sy s t rest Greater is l =
    let above : y < x = l in
    let less = stays_less n (a * 256 + y) (a * 256 + x) ys xs q p t (omega arith) in
    record { apart = λ f. ap (λ o. ordering_then o (slice_cmp nat_cmp xs ys)) is ∙ sym (greater_is _ _ less); alike = λ e. absurd (omega arith) }

words : (n a : ℕ) (xs ys : List ℕ) → n ≤ length xs → n ≤ length ys → AreBytes xs → AreBytes ys → Words xs ys n (big_endian a (take n xs)) (big_endian a (take n ys))
words zero a xs ys p q s t = record { apart = λ f. absurd (f refl); alike = λ e. refl }
words (suc n) a [] ys p q s t = absurd (omega arith)
words (suc n) a (x ∷ xs) [] p q s t = absurd (omega arith)
words (suc n) a (x ∷ xs) (y ∷ ys) p q s t =
    one_more n a x y xs ys (omega arith) (omega arith) (s 0) (t 0) (λ k. s (suc k)) (λ k. t (suc k))
    (words n (a * 256 + x) xs ys (omega arith) (omega arith) (λ k. s (suc k)) (λ k. t (suc k))) (nat_cmp x y) refl (ranked x y _ refl)

-- equal bytes in front decide nothing
same_first : (x y : ℕ) (o : Ordering) → x ≡ y → ordering_then (nat_cmp x y) o ≡ o
same_first x y o e = ap (λ z. ordering_then (nat_cmp x z) o) (sym e) ∙ ap (λ r. ordering_then r o) (equal_is x)

-- bytes that begin in the same way compare as what is behind does
pub past : (i : ℕ) (xs ys : List ℕ) → i ≤ length xs → i ≤ length ys → take i xs ≡ take i ys → slice_cmp nat_cmp xs ys ≡ slice_cmp nat_cmp (drop i xs) (drop i ys)
past zero xs ys p q e = refl
past (suc i) [] ys p q e = absurd (omega arith)
past (suc i) (x ∷ xs) [] p q e = absurd (omega arith)
past (suc i) (x ∷ xs) (y ∷ ys) p q e = same_first x y (slice_cmp nat_cmp xs ys) (ap (λ zs. get_or zs 0 0) e) ∙ past i xs ys (omega arith) (omega arith) (ap (drop 1) e)

-- the n bytes from a place on, where those before are the same
pub words_at : (xs ys : List ℕ) (i n v w : ℕ) → i + n ≤ length xs → i + n ≤ length ys → AreBytes xs → AreBytes ys → take i xs ≡ take i ys
    → v ≡ big_endian 0 (take n (drop i xs)) → w ≡ big_endian 0 (take n (drop i ys)) → Words xs ys (i + n) v w
words_at xs ys i n v w p q s t e is also =
    let read : Words (drop i xs) (drop i ys) n (big_endian 0 (take n (drop i xs))) (big_endian 0 (take n (drop i ys))) =
    words n 0 (drop i xs) (drop i ys) (omega (arith, length-drop i xs)) (omega (arith, length-drop i ys))
    (λ k. subst (λ z. z < 256) (sym (get_or-drop i xs k 0)) (s (i + k))) (λ k. subst (λ z. z < 256) (sym (get_or-drop i ys k 0)) (t (i + k))) in
    let inside : Words (drop i xs) (drop i ys) n v w = subst (λ z. Words (drop i xs) (drop i ys) n z w) (sym is) (subst (Words (drop i xs) (drop i ys) n (big_endian 0 (take n (drop i xs)))) (sym also) read) in
    record {
      apart = λ f. past i xs ys (omega arith) (omega arith) e ∙ inside.apart f;
      alike = λ f. take-add i n xs ∙ ap (λ zs. zs ++ take n (drop i xs)) e ∙ ap (λ zs. take i ys ++ zs) (inside.alike f) ∙ sym (take-add i n ys);
    }

-- bytes that are the same up to a place are so up to one before
pub fewer : (m n : ℕ) (xs ys : List ℕ) → m ≤ n → take n xs ≡ take n ys → take m xs ≡ take m ys
fewer m n xs ys h e = sym (take-take m n xs h) ∙ ap (take m) e ∙ take-take m n ys h

pub both_more : (a b : ℕ) (o : Ordering) → MatchOrdering o (a < b) (a ≡ b) (b < a) → o ≡ nat_cmp (suc a) (suc b)
both_more a b Less l = let below : a < b = l in nat_cmp_is (suc a) (suc b) Less (omega arith)
both_more a b Equal l = let level : a ≡ b = l in nat_cmp_is (suc a) (suc b) Equal (omega arith)
both_more a b Greater l = let above : b < a = l in nat_cmp_is (suc a) (suc b) Greater (omega arith)

-- where all bytes that both have are the same, the lengths decide
pub by_lengths : (n : ℕ) (xs ys : List ℕ) → n ≡ min (length xs) (length ys) → take n xs ≡ take n ys → slice_cmp nat_cmp xs ys ≡ nat_cmp (length xs) (length ys)
by_lengths n [] [] e same = refl
by_lengths n [] (y ∷ ys) e same = sym (less_is 0 (length (y ∷ ys)) (omega arith))
by_lengths n (x ∷ xs) [] e same = sym (greater_is (length (x ∷ xs)) 0 (omega arith))
by_lengths zero (x ∷ xs) (y ∷ ys) e same = absurd (omega arith)
by_lengths (suc n) (x ∷ xs) (y ∷ ys) e same =
    same_first x y (slice_cmp nat_cmp xs ys) (ap (λ zs. get_or zs 0 0) same) ∙ by_lengths n xs ys (omega arith) (ap (drop 1) same)
    ∙ both_more (length xs) (length ys) _ (ranked (length xs) (length ys) _ refl)
