-- Bytes with zeros behind them compare as the bytes do, but for their lengths.
use Rattle.std.proofs.Common.{◌≡◌, ℕ, zero, suc, ◌+◌, ◌-◌, ◌≤◌, List, [], ◌∷◌, ◌++◌, length, take, drop, replicate, inl, inr, refl, sym, ap, ◌∙◌, arith, length-take}
use Rattle.std.specs.declared.cmp.Ordering.{Ordering}
use Rattle.std.specs.declared.cmp.Ordering.TheVariants.{Less, Equal, Greater}
use Rattle.std.specs.Ordering.{nat_cmp, ordering_then}
use Rattle.std.specs.Cmp.{nat_cmp_is}
use Rattle.std.specs.Cmp.Lexicographic.{slice_cmp}
use Rattle.std.proofs.lemmas.Bool.{cases_eq, cases_lt}
use Rattle.std.proofs.lemmas.Cmp.{ranked}
use Rattle.std.proofs.lemmas.List.{take-append-drop}
use Rattle.wire_names.proofs.lemmas.rr.domain.KeyWords.{Words, less_is, greater_is, both_more, by_lengths}

equal_is : (a b : ℕ) → a ≡ b → nat_cmp a b ≡ Equal
equal_is a b e = sym (nat_cmp_is a b Equal e)

then_then : (o p q : Ordering) → ordering_then (ordering_then o p) q ≡ ordering_then o (ordering_then p q)
then_then Less p q = refl
then_then Equal p q = refl
then_then Greater p q = refl

same_zeros : (n : ℕ) → slice_cmp nat_cmp (replicate n zero) (replicate n zero) ≡ Equal
same_zeros zero = refl
same_zeros (suc n) = ap (λ o. ordering_then o (slice_cmp nat_cmp (replicate n zero) (replicate n zero))) (equal_is 0 0 refl) ∙ same_zeros n

-- zeros alone come before or at other bytes, as many
least : (bs : List ℕ) (p q : ℕ) → p ≡ length bs + q → ordering_then (slice_cmp nat_cmp (replicate p zero) (bs ++ replicate q zero)) Less ≡ Less
least [] p q e =
    let level : p ≡ q = omega (arith, e) in
    ap (λ r. ordering_then (slice_cmp nat_cmp (replicate p zero) (replicate r zero)) Less) (sym level) ∙ ap (λ o. ordering_then o Less) (same_zeros p)
least (b ∷ bs) zero q e = absurd (omega (arith, e))
least (b ∷ bs) (suc p) q e = elim (cases_lt 0 b) [
  | inl below ↦ ap (λ o. ordering_then (ordering_then o (slice_cmp nat_cmp (replicate p zero) (bs ++ replicate q zero))) Less) (less_is 0 b below)
  | inr none ↦
      ap (λ o. ordering_then (ordering_then o (slice_cmp nat_cmp (replicate p zero) (bs ++ replicate q zero))) Less) (equal_is 0 b (omega (arith, none)))
      ∙ least bs p q (omega (arith, e))
]

-- and the other way round
greatest : (bs : List ℕ) (p q : ℕ) → length bs + p ≡ q → ordering_then (slice_cmp nat_cmp (bs ++ replicate p zero) (replicate q zero)) Greater ≡ Greater
greatest [] p q e =
    let level : p ≡ q = omega (arith, e) in
    ap (λ r. ordering_then (slice_cmp nat_cmp (replicate p zero) (replicate r zero)) Greater) (sym level) ∙ ap (λ o. ordering_then o Greater) (same_zeros p)
greatest (b ∷ bs) p zero e = absurd (omega (arith, e))
greatest (b ∷ bs) p (suc q) e = elim (cases_lt 0 b) [
  | inl above ↦ ap (λ o. ordering_then (ordering_then o (slice_cmp nat_cmp (bs ++ replicate p zero) (replicate q zero))) Greater) (greater_is b 0 above)
  | inr none ↦
      ap (λ o. ordering_then (ordering_then o (slice_cmp nat_cmp (bs ++ replicate p zero) (replicate q zero))) Greater) (equal_is b 0 (omega (arith, none)))
      ∙ greatest bs p q (omega (arith, e))
]

-- bytes compare as they do with zeros behind them, and where those tie, as their lengths
pub padded : (cs bs : List ℕ) (p q : ℕ) → length cs + p ≡ length bs + q
    → ordering_then (slice_cmp nat_cmp (cs ++ replicate p zero) (bs ++ replicate q zero)) (nat_cmp (length cs) (length bs)) ≡ slice_cmp nat_cmp cs bs
padded [] [] p q e =
    let level : p ≡ q = omega (arith, e) in
    ap (λ r. ordering_then (slice_cmp nat_cmp (replicate p zero) (replicate r zero)) (nat_cmp 0 0)) (sym level) ∙ ap (λ o. ordering_then o (nat_cmp 0 0)) (same_zeros p) ∙ equal_is 0 0 refl
padded [] (b ∷ bs) p q e =
    ap (ordering_then (slice_cmp nat_cmp (replicate p zero) ((b ∷ bs) ++ replicate q zero))) (less_is 0 (length (b ∷ bs)) (omega arith)) ∙ least (b ∷ bs) p q (omega (arith, e))
padded (a ∷ cs) [] p q e =
    ap (ordering_then (slice_cmp nat_cmp ((a ∷ cs) ++ replicate p zero) (replicate q zero))) (greater_is (length (a ∷ cs)) 0 (omega arith)) ∙ greatest (a ∷ cs) p q (omega (arith, e))
padded (a ∷ cs) (b ∷ bs) p q e =
    let rest = slice_cmp nat_cmp (cs ++ replicate p zero) (bs ++ replicate q zero) in
    then_then (nat_cmp a b) rest (nat_cmp (length (a ∷ cs)) (length (b ∷ bs)))
    ∙ ap (ordering_then (nat_cmp a b)) (ap (ordering_then rest) (sym (both_more (length cs) (length bs) _ (ranked (length cs) (length bs) _ refl))) ∙ padded cs bs p q (omega (arith, e)))

-- Two rooms of as many places, with zeros behind the bytes that they hold, compare as the bytes do, but for how many
-- they hold.
pub by_rooms : (room m n : ℕ) (xs ys : List ℕ) → length xs ≡ room → length ys ≡ room → m ≤ room → n ≤ room
    → drop m xs ≡ replicate (room - m) zero → drop n ys ≡ replicate (room - n) zero
    → ordering_then (slice_cmp nat_cmp xs ys) (nat_cmp m n) ≡ slice_cmp nat_cmp (take m xs) (take n ys)
by_rooms room m n xs ys long long' le le' e e' =
    let front : xs ≡ take m xs ++ replicate (room - m) zero = sym (take-append-drop m xs) ∙ ap (λ zs. take m xs ++ zs) e in
    let front' : ys ≡ take n ys ++ replicate (room - n) zero = sym (take-append-drop n ys) ∙ ap (λ zs. take n ys ++ zs) e' in
    let size : length (take m xs) ≡ m = omega (arith, length-take m xs, long, le) in
    let size' : length (take n ys) ≡ n = omega (arith, length-take n ys, long', le') in
    ap (λ zs. ordering_then (slice_cmp nat_cmp zs ys) (nat_cmp m n)) front
    ∙ ap (λ zs. ordering_then (slice_cmp nat_cmp (take m xs ++ replicate (room - m) zero) zs) (nat_cmp m n)) front'
    ∙ ap (λ k. ordering_then (slice_cmp nat_cmp (take m xs ++ replicate (room - m) zero) (take n ys ++ replicate (room - n) zero)) (nat_cmp k n)) (sym size)
    ∙ ap (λ k. ordering_then (slice_cmp nat_cmp (take m xs ++ replicate (room - m) zero) (take n ys ++ replicate (room - n) zero)) (nat_cmp (length (take m xs)) k)) (sym size')
    ∙ padded (take m xs) (take n ys) (room - m) (room - n) (omega (arith, size, size', le, le'))

-- what is not equal decides, whatever comes behind it
pub decided : (o next : Ordering) → (o ≡ Equal → ⊥) → o ≡ ordering_then o next
decided Less next f = refl
decided Equal next f = absurd (f refl)
decided Greater next f = refl

-- The last words decide, where they are all that is left.
pub last_words : (n : ℕ) (xs ys : List ℕ) (v w : ℕ) → length xs ≡ n → length ys ≡ n → Words xs ys n v w → nat_cmp v w ≡ slice_cmp nat_cmp xs ys
last_words n xs ys v w long long' read = elim (cases_eq v w) [
  | inl e ↦
      equal_is v w e
      ∙ sym (by_lengths n xs ys (omega (arith, long, long')) (read.alike e) ∙ equal_is (length xs) (length ys) (omega (arith, long, long')))
  | inr ne ↦ sym (read.apart ne)
]
