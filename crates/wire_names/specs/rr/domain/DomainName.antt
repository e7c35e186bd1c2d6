-- Domain names and their wire form (RFC 1035, sections 2.3.4 and 3.1).
use Rattle.std.specs.Prelude.{◌≡◌, ℕ, zero, suc, ◌+◌, ◌<◌, ◌≤◌, Bool, List, [], ◌∷◌, ◌++◌, length, take, drop, All}

-- the labels, the leftmost first, and whether the name is fully qualified
pub record DomainName : Type 0 where
  pub labels : List (List ℕ)
  pub is_fqdn : Bool

-- A label has 1 to 63 bytes (RFC 1035, section 2.3.4).
abbrev pub IsLabel : List ℕ → Type 0
IsLabel label = (0 < length label) × (length label < 64)

-- the labels one after another, each behind its length byte, without the end byte (RFC 1035, section 3.1)
abbrev pub wire_form : List (List ℕ) → List ℕ
wire_form [] = []
wire_form (l ∷ ls) = length l ∷ (l ++ wire_form ls)

-- how many bytes a name takes in wire form: each label with its length byte, and the end byte
abbrev pub name_len : List (List ℕ) → ℕ
name_len [] = 1
name_len (l ∷ ls) = 1 + length l + name_len ls

-- the labels of a name, which has at most 255 bytes in wire form (RFC 1035, section 2.3.4)
pub record AreLabels (labels : List (List ℕ)) : Type 0 where
  pub each : All IsLabel labels
  pub short : name_len labels ≤ 255

abbrev pub cut_within : ℕ → List ℕ → List (List ℕ)
cut_within zero bytes = []
cut_within (suc fuel) [] = []
cut_within (suc fuel) (n ∷ rest) = take n rest ∷ cut_within fuel (drop n rest)

-- the labels that stand in the bytes, each behind its length byte
unfoldable pub cut : List ℕ → List (List ℕ)
cut bytes = cut_within (length bytes) bytes

-- The bytes are the wire form of the labels of some name.
pub record IsWire (bytes : List ℕ) : Type 0 where
  pub whole : wire_form (cut bytes) ≡ bytes
  pub are : AreLabels (cut bytes)

-- where the length byte of the i-th label stands in the wire form
abbrev pub label_offset : List (List ℕ) → ℕ → ℕ
label_offset ls zero = 0
label_offset [] (suc i) = 0
label_offset (l ∷ ls) (suc i) = suc (length l + label_offset ls i)
