-- Names as bytes that compare as the names do, so that a map compares keys byte by byte (the order is that of RFC 4034,
-- section 6.1).
use Rattle.std.specs.Prelude.{◌≡◌, ℕ, zero, suc, ◌+◌, ◌-◌, ◌<◌, ◌≤◌, List, [], ◌∷◌, ◌++◌, length, get_or, take, drop, replicate, reverse}
use Rattle.std.specs.Slice.Scan.{big_endian}

-- the bytes of a label, those below 2 as two bytes: none is 0, and their order is kept
abbrev pub escaped : List ℕ → List ℕ
escaped [] = []
escaped (zero ∷ bytes) = 1 ∷ 1 ∷ escaped bytes
escaped (suc zero ∷ bytes) = 1 ∷ 2 ∷ escaped bytes
escaped (suc (suc n) ∷ bytes) = suc (suc n) ∷ escaped bytes

-- labels one after another, each ended by the byte 0, which is below all others
abbrev pub key_of_labels : List (List ℕ) → List ℕ
key_of_labels [] = []
key_of_labels (l ∷ ls) = escaped l ++ 0 ∷ key_of_labels ls

-- the labels of a name from the last one on
abbrev pub order_key : List (List ℕ) → List ℕ
order_key labels = key_of_labels (reverse labels)

-- the eight bytes from a place on, with zeros behind the end, as a number
abbrev pub word_behind : ℕ → List ℕ → ℕ
word_behind place bytes = big_endian 0 (take 8 (drop place bytes ++ replicate 8 zero))

-- those of the key of a name that stand where the key of a name above it ends
unfoldable pub order_word : List (List ℕ) → List (List ℕ) → ℕ
order_word above labels = word_behind (length (order_key above)) (order_key labels)

-- So many bytes at the front of a key stand at the front of the other one too, and end a label of it. They are not the
-- whole key, unless that is empty, and no greater number of its bytes is such.
pub record IsSharedFront (key other : List ℕ) (count : ℕ) : Type 0 where
  pub within : count ≤ length key
  pub short : 0 < length key → count < length key
  pub shared : take count key ≡ take count other
  pub whole : 0 < count → get_or key (count - 1) 0 ≡ 0
  pub longest : (k : ℕ) → count ≤ k → k + 1 < length key → get_or key k 0 ≡ 0 → ¬ (take (k + 1) key ≡ take (k + 1) other)
