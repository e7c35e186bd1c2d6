-- Names as text: one or more labels joined by dots, with or without a final dot.
use Rattle.std.specs.Prelude.{◌≡◌, ◌≢◌, ℕ, ◌≤◌, ◌⊎◌, Bool, true, false, List, [], ◌∷◌, ◌++◌, All}
use Rattle.wire_names.specs.rr.domain.DomainName.{DomainName, IsLabel, name_len}

-- an ASCII letter, a digit, `-` or `_`
abbrev pub IsNameByte : ℕ → Type 0
IsNameByte b = ((97 ≤ b) × (b ≤ 122)) ⊎ ((65 ≤ b) × (b ≤ 90)) ⊎ ((48 ≤ b) × (b ≤ 57)) ⊎ (b ≡ 45) ⊎ (b ≡ 95)

-- a label as it may stand in text: `*` alone, or 1 to 63 letters, digits, `-` and `_`
abbrev pub IsTextLabel : List ℕ → Type 0
IsTextLabel label = (label ≡ 42 ∷ []) ⊎ (IsLabel label × All IsNameByte label)

-- the labels joined by dots, with a final dot where the name is fully qualified
abbrev pub name_text : List (List ℕ) → Bool → List ℕ
name_text [] is_fqdn = []
name_text (l ∷ []) true = l ++ 46 ∷ []
name_text (l ∷ []) false = l
name_text (l ∷ m ∷ ls) is_fqdn = l ++ 46 ∷ name_text (m ∷ ls) is_fqdn

-- The text is the name text of the name.
pub record IsNameText (text : List ℕ) (name : DomainName) : Type 0 where
  pub some : name.labels ≢ []
  pub each : All IsTextLabel name.labels
  pub short : name_len name.labels ≤ 255
  pub spelled : text ≡ name_text name.labels name.is_fqdn
