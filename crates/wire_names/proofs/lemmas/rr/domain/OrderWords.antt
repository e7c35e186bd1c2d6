-- Eight bytes of an order key, read as a number, tell the order of names at or below one.
use Rattle.std.proofs.Common.{◌≡◌, ℕ, zero, suc, ◌+◌, ◌-◌, ◌<◌, ◌≤◌, List, [], ◌∷◌, ◌++◌, length, min, take, drop, replicate, reverse, refl, sym, ap, ◌∙◌, subst, arith, length-take, length-append}
use Rattle.std.specs.declared.cmp.Ordering.{Ordering}
use Rattle.std.specs.declared.cmp.Ordering.TheVariants.{Equal}
use Rattle.std.specs.Ordering.{nat_cmp, bool_cmp}
use Rattle.std.specs.Cmp.Lexicographic.{slice_cmp}
use Rattle.std.specs.Slice.Scan.{big_endian}
use Rattle.std.proofs.lemmas.Cmp.{ranked}
use Rattle.std.proofs.lemmas.List.{drop_min, drop-replicate, take-replicate, take-append-drop, take-append-le, length-drop, length-replicate, get_or-drop}
use Rattle.std.proofs.Math.Seq.{drop-nil, take-length}
use Rattle.wire_names.specs.rr.domain.DomainName.{DomainName}
use Rattle.wire_names.specs.rr.domain.NameOrder.{Encloses, label_cmp, lower_labels, name_cmp}
use Rattle.wire_names.specs.representation.OrderKey.{order_key, order_word, word_behind}
use Rattle.wire_names.specs.serialize.layout.Bytes.{AreBytes}
use Rattle.wire_names.proofs.lemmas.rr.domain.KeyWords.{Words, words_at, past}
use Rattle.wire_names.proofs.lemmas.rr.domain.OrderKeys.{key_of_enclosed, keys_of_names}
use Rattle.wire_names.proofs.lemmas.rr.domain.PaddedBytes.{decided, padded}

take_at : (xs ys : List ℕ) → take (length xs) (xs ++ ys) ≡ xs
take_at xs ys = take-append-le (length xs) xs ys (omega arith) ∙ take-length xs

-- bytes with zeros behind them begin in the same way, however many zeros these are
zeros_alike : (n p q : ℕ) (ts : List ℕ) → n ≤ length ts + p → n ≤ length ts + q → take n (ts ++ replicate p zero) ≡ take n (ts ++ replicate q zero)
zeros_alike n p q [] h k = take-replicate n p zero (omega arith) ∙ sym (take-replicate n q zero (omega arith))
zeros_alike zero p q (t ∷ ts) h k = refl
zeros_alike (suc n) p q (t ∷ ts) h k = ap (λ zs. t ∷ zs) (zeros_alike n p q ts (omega arith) (omega arith))

-- and so from a place on
from_place : (n place r : ℕ) (ts : List ℕ) → place + n ≤ length ts + r → take n (drop place (ts ++ replicate r zero)) ≡ take n (drop place ts ++ replicate n zero)
from_place n zero r ts h = zeros_alike n r n ts (omega arith) (omega arith)
from_place n (suc place) zero [] h = absurd (omega arith)
from_place n (suc place) (suc r) [] h = from_place n place r [] (omega arith) ∙ ap (λ zs. take n (zs ++ replicate n zero)) (drop-nil place)
from_place n (suc place) r (t ∷ ts) h = from_place n place r ts (omega arith)

-- The eight bytes in a room with zeros behind what it holds are those that it holds.
pub room_word : (room : List ℕ) (len place word : ℕ) → length room ≡ 30 → len ≤ 30 → place + 8 ≤ 30 → drop len room ≡ replicate (30 - len) zero
    → word ≡ big_endian 0 (take 8 (drop place room)) → word ≡ word_behind place (take len room)
room_word room len place word long le fits e is =
    is
    ∙ ap (λ xs. big_endian 0 (take 8 (drop place xs))) (sym (take-append-drop len room) ∙ ap (λ zs. take len room ++ zs) e)
    ∙ ap (big_endian 0) (from_place 8 place (30 - len) (take len room) (omega (arith, length-take len room)))

pub bytes_front : (n : ℕ) (xs : List ℕ) → AreBytes xs → AreBytes (take n xs)
bytes_front zero xs h k = omega arith
bytes_front (suc n) [] h k = omega arith
bytes_front (suc n) (x ∷ xs) h zero = h zero
bytes_front (suc n) (x ∷ xs) h (suc k) = bytes_front n xs (λ i. h (suc i)) k

-- The bytes from a place on, where they are fewer than eight, in an array of eight with zeros behind them.
pub tail_word : (bytes rest padded : List ℕ) (place from word : ℕ) → from ≡ min place (length bytes) → rest ≡ take (length bytes - from) (drop from bytes) → length rest < 8
    → padded ≡ rest ++ drop (length rest) (replicate 8 zero) → word ≡ big_endian 0 (take 8 padded) → word ≡ word_behind place bytes
tail_word bytes rest padded place from word at tail few e is =
    let behind : rest ≡ drop place bytes =
    tail ∙ ap (λ n. take n (drop from bytes)) (sym (length-drop from bytes)) ∙ take-length (drop from bytes) ∙ ap (λ k. drop k bytes) at ∙ drop_min place bytes in
    is
    ∙ ap (λ xs. big_endian 0 (take 8 xs)) (e ∙ ap (λ zs. rest ++ zs) (drop-replicate (length rest) 8 zero))
    ∙ ap (big_endian 0) (zeros_alike 8 (8 - length rest) 8 rest (omega (arith, few)) (omega arith))
    ∙ ap (λ xs. big_endian 0 (take 8 (xs ++ replicate 8 zero))) behind

bytes_padded : (xs : List ℕ) (p : ℕ) → AreBytes xs → AreBytes (xs ++ replicate p zero)
bytes_padded [] zero h k = h k
bytes_padded [] (suc p) h zero = omega arith
bytes_padded [] (suc p) h (suc k) = bytes_padded [] p h k
bytes_padded (x ∷ xs) p h zero = h zero
bytes_padded (x ∷ xs) p h (suc k) = bytes_padded xs p (λ i. h (suc i)) k

bytes_from : (n : ℕ) (xs : List ℕ) → AreBytes xs → AreBytes (drop n xs)
bytes_from n xs h k = subst (λ z. z < 256) (sym (get_or-drop n xs k 0)) (h (n + k))

-- numbers that are not equal do not tie
apart : (v w : ℕ) (o : Ordering) → (v ≡ w → ⊥) → o ≡ nat_cmp v w → o ≡ Equal → ⊥
apart v w o f is e = f (ranked v w Equal (sym e ∙ is))

-- the first eight bytes, with zeros behind the end, decide where they differ
first_word : (xs ys : List ℕ) → AreBytes xs → AreBytes ys → (word_behind 0 xs ≡ word_behind 0 ys → ⊥) → slice_cmp nat_cmp xs ys ≡ nat_cmp (word_behind 0 xs) (word_behind 0 ys)
first_word xs ys s t f =
    let p = 8 + length ys in
    let q = 8 + length xs in
    let long = xs ++ replicate p zero in
    let other = ys ++ replicate q zero in
    let read : Words long other 8 (word_behind 0 xs) (word_behind 0 ys) =
    words_at long other 0 8 (word_behind 0 xs) (word_behind 0 ys)
    (omega (arith, length-append xs (replicate p zero), length-replicate p zero))
    (omega (arith, length-append ys (replicate q zero), length-replicate q zero))
    (bytes_padded xs p s) (bytes_padded ys q t) refl
    (ap (big_endian 0) (zeros_alike 8 8 p xs (omega arith) (omega arith)))
    (ap (big_endian 0) (zeros_alike 8 8 q ys (omega arith) (omega arith))) in
    let by = read.apart f in
    sym (padded xs ys p q (omega arith)) ∙ sym (decided (slice_cmp nat_cmp long other) (nat_cmp (length xs) (length ys)) (apart _ _ _ f by)) ∙ by

-- Names at or below one whose keys have other numbers there are in the order of these numbers.
words_decide : (above a b : List (List ℕ)) → lower_labels above ≡ above → lower_labels a ≡ a → lower_labels b ≡ b → Encloses above a → Encloses above b
    → AreBytes (order_key a) → AreBytes (order_key b) → (order_word above a ≡ order_word above b → ⊥)
    → slice_cmp nat_cmp (order_key a) (order_key b) ≡ nat_cmp (order_word above a) (order_word above b)
unfolding order_word
words_decide above a b l p q h k s t f =
    let key = order_key above in
    let own = key_of_enclosed above a l p h in
    let other = key_of_enclosed above b l q k in
    past (length key) (order_key a) (order_key b)
    (omega (arith, ap length own, length-append key (order_key h.front)))
    (omega (arith, ap length other, length-append key (order_key k.front)))
    (ap (take (length key)) own ∙ take_at key (order_key h.front) ∙ sym (ap (take (length key)) other ∙ take_at key (order_key k.front)))
    ∙ first_word (drop (length key) (order_key a)) (drop (length key) (order_key b)) (bytes_from (length key) (order_key a) s) (bytes_from (length key) (order_key b) t) f

pub word_order : (above a b : DomainName) → lower_labels above.labels ≡ above.labels → lower_labels a.labels ≡ a.labels → lower_labels b.labels ≡ b.labels
    → Encloses above.labels a.labels → Encloses above.labels b.labels → AreBytes (order_key a.labels) → AreBytes (order_key b.labels)
    → (order_word above.labels a.labels ≡ order_word above.labels b.labels → ⊥) → name_cmp a b ≡ nat_cmp (order_word above.labels a.labels) (order_word above.labels b.labels)
word_order above a b l p q h k s t f =
    let labels = sym (keys_of_names a.labels b.labels p q) ∙ words_decide above.labels a.labels b.labels l p q h k s t f in
    sym (decided (slice_cmp label_cmp (reverse a.labels) (reverse b.labels)) (bool_cmp a.is_fqdn b.is_fqdn) (apart _ _ _ f labels)) ∙ labels
