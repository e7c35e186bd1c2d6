-- Hashes as labels, in base32hex without padding (RFC 4648 section 7, RFC 5155 section 3): eight digits are five octets.
use Rattle.std.specs.Prelude.{◌+◌, ◌*◌, ◌/◌, ◌%◌, ◌==◌, ◌∷◌, ◌++◌, ℕ, nat_lt, cond, List, [], length, take, drop, Option, Some, None}
use Rattle.std.specs.Char.{digit_value}
use Rattle.std.specs.Option.{option_and_then, option_map}

-- the value of a digit, in upper or lower case
abbrev pub digit_in : ℕ → Option ℕ
digit_in octet = cond (nat_lt (digit_value octet) 32) (Some (digit_value octet)) None

abbrev pub digits_in : List ℕ → Option (List ℕ)
digits_in [] = Some []
digits_in (octet ∷ octets) = option_and_then (λ digit. option_map (λ digits. digit ∷ digits) (digits_in octets)) (digit_in octet)

-- the octets of eight digits
abbrev pub group_of : List ℕ → Option (List ℕ)
group_of (a ∷ b ∷ c ∷ d ∷ e ∷ f ∷ g ∷ h ∷ []) = Some ((a * 8 + b / 4) ∷ (b % 4 * 64 + c * 2 + d / 16) ∷ (d % 16 * 16 + e / 2) ∷ (e % 2 * 128 + f * 4 + g / 8) ∷ (g % 8 * 32 + h) ∷ [])
group_of other = None

abbrev pub group_in : List ℕ → Option (List ℕ)
group_in text = option_and_then group_of (digits_in text)

abbrev pub joined : Option (List ℕ) → Option (List ℕ) → Option (List ℕ)
joined octets more = option_and_then (λ xs. option_map (λ ys. xs ++ ys) more) octets

-- the hash of SHA-1 that a label has, if it has one: 32 digits in four groups
abbrev pub hash_in : List ℕ → Option (List ℕ)
hash_in label = cond (length label == 32) (joined (group_in (take 8 label)) (joined (group_in (take 8 (drop 8 label))) (joined (group_in (take 8 (drop 16 label))) (group_in (take 8 (drop 24 label)))))) None
