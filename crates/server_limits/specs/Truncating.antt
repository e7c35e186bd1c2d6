-- Replies without their records.
use Rattle.std.specs.Prelude.{◌≡◌, ◌≤◌, ◌+◌, ◌/◌, ◌%◌, ◌++◌, ◌∷◌, [], ℕ, List, drop, get_or, if◌then◌else◌, length, nat_eq, take}

-- Labels stand one behind the other, each behind its length, of 1 to 63 bytes (RFC 1035 section 3.1).
pub data AreLabels : List ℕ → Type 0 where
  none : AreLabels []
  more : {bytes : List ℕ} (labels label : List ℕ) (len : ℕ) → AreLabels labels → 1 ≤ len → len ≤ 63 → length label ≡ len → bytes ≡ labels ++ len ∷ label → AreLabels bytes

-- The bytes are a question: labels, the root behind them, and four bytes of type and class (RFC 1035 section 4.1.2).
abbrev pub IsQuestion : List ℕ → Type 0
IsQuestion bytes = (labels : List ℕ) × (last : List ℕ) × AreLabels labels × (length last ≡ 4) × (bytes ≡ labels ++ 0 ∷ last)

-- the third byte of a header with TC, its second lowest bit (RFC 1035 section 4.1.1)
abbrev pub with_truncation : ℕ → ℕ
with_truncation flags = if nat_eq (flags / 2 % 2) 1 then flags else flags + 2

-- a header of these first four bytes, with so many questions and no records
abbrev pub header : ℕ → ℕ → ℕ → ℕ → ℕ → List ℕ
header a b flags code questions = a ∷ b ∷ flags ∷ code ∷ 0 ∷ questions ∷ 0 ∷ 0 ∷ 0 ∷ 0 ∷ 0 ∷ 0 ∷ []

-- What is sent of a reply says TC and has its identifier, flags, code and first question, and no records.
abbrev pub IsTruncated : List ℕ → List ℕ → Type 0
IsTruncated reply bytes = (12 ≤ length reply) × (len : ℕ) × IsQuestion (take len (drop 12 reply))
    × (bytes ≡ header (get_or reply 0 0) (get_or reply 1 0) (with_truncation (get_or reply 2 0)) (get_or reply 3 0) 1 ++ take len (drop 12 reply))
