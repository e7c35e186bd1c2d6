-- Type bit maps (RFC 4034 section 4.1.2), octet by octet: windows in ascending order, each with its number, its length
-- from 1 to 32, and so many octets, whose bits are types.
use Rattle.std.specs.Prelude.{◌≡◌, ◌==◌, ◌||◌, ◌+◌, ◌-◌, ◌*◌, ◌/◌, ◌%◌, ◌^◌, ◌<◌, ◌≤◌, ◌∷◌, ◌++◌, ℕ, zero, suc, Bool, nat_lt, cond, if◌then◌else◌, List, [], Option, Some, None}
use Rattle.std.specs.Option.{option_and_then, option_map}
use Rattle.zone_denials.specs.declared.type_bits.Part.{Part}
use Rattle.zone_denials.specs.declared.type_bits.Part.TheVariants as part

-- whether a bit of an octet is set; bit 0 is the highest
abbrev pub has_bit : ℕ → ℕ → Bool
has_bit octet place = octet / 2 ^ (7 - place) % 2 == 1

-- the types of the first so many bits of an octet, whose first bit is this type
abbrev pub listed_in : ℕ → ℕ → ℕ → List ℕ
listed_in first octet zero = []
listed_in first octet (suc place) = listed_in first octet place ++ cond (has_bit octet place) ((first + place) ∷ []) []

-- the types that an octet lists
abbrev pub listed_by : Part → ℕ → List ℕ
listed_by (part.Bits window before left) octet = listed_in (window * 256 + before * 8) octet 8
listed_by other octet = []

-- what is read after an octet, if it may be there
abbrev pub next_part : Part → ℕ → Option Part
next_part (part.Window least) octet = if nat_lt octet least then None else Some (part.Length octet)
next_part (part.Length window) octet = if octet == 0 || nat_lt 32 octet then None else Some (part.Bits window 0 octet)
next_part (part.Bits window before left) octet = if left == 1 then Some (part.Window (window + 1)) else Some (part.Bits window (before + 1) (left - 1))

-- the octets of a window may be so many
abbrev pub IsPart : Part → Type 0
IsPart (part.Bits window before left) = (0 < left) × (before + left ≤ 32)
IsPart other = Unit {0}

-- A bit map ends after a window.
abbrev pub at_end : Part → Option (List ℕ)
at_end (part.Window least) = Some []
at_end other = None

abbrev pub types_from : Part → List ℕ → Option (List ℕ)
types_from at [] = at_end at
types_from at (octet ∷ octets) = option_and_then (λ next. option_map (λ types. listed_by at octet ++ types) (types_from next octets)) (next_part at octet)

-- the types that a bit map lists, if the octets have the form of one
abbrev pub types_in : List ℕ → Option (List ℕ)
types_in octets = types_from (part.Window 0) octets

-- RFC 4034 section 4.3: A MX RRSIG NSEC TYPE1234
abbrev pub WorkedTypes : Type 0
WorkedTypes = types_in (0 ∷ 6 ∷ 64 ∷ 1 ∷ 0 ∷ 0 ∷ 0 ∷ 3 ∷ 4 ∷ 27 ∷ 0 ∷ 0 ∷ 0 ∷ 0 ∷ 0 ∷ 0 ∷ 0 ∷ 0 ∷ 0 ∷ 0 ∷ 0 ∷ 0 ∷ 0 ∷ 0 ∷ 0 ∷ 0 ∷ 0 ∷ 0 ∷ 0 ∷ 0 ∷ 0 ∷ 0 ∷ 0 ∷ 0 ∷ 0 ∷ 0 ∷ 32 ∷ []) ≡ Some (1 ∷ 15 ∷ 46 ∷ 47 ∷ 1234 ∷ [])
