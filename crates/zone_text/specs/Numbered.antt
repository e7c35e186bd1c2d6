-- Words with numbers for dollar signs, as a $GENERATE directive has them (BIND 9 Administrator Reference Manual,
-- section "BIND Primary File Extension: the $GENERATE Directive").
use Rattle.std.specs.Prelude.{◌≡◌, ℕ, ◌+◌, ◌-◌, ◌*◌, ◌/◌, ◌%◌, ◌^◌, ◌<◌, ◌≤◌, ◌==◌, ◌&&◌, if◌then◌else◌, nat_lt, Bool, true, false, List, [], ◌∷◌, ◌++◌, zero, suc, length, max, replicate, Option, Some, None}
use Rattle.std.specs.Char.{is_digit}
use Rattle.std.specs.Fmt.{decimal, digit_glyph, digits}
use Rattle.std.specs.List.{after_first, before_first, position_or_len}
use Rattle.std.specs.Str.Parse.{digits_value, starts_with_minus, without_leading_sign}
use Rattle.zone_text.specs.declared.zone_file.number_form.NumberBase.{NumberBase}
use Rattle.zone_text.specs.declared.zone_file.number_form.NumberBase.TheVariants.{Decimal, Octal, Hex, UpperHex, Nibbles, UpperNibbles}
use Rattle.zone_text.specs.declared.zone_file.number_form.NumberForm.{NumberForm}
use Rattle.zone_text.specs.declared.zone_file.number_range.NumberRange.{NumberRange}

-- what stands before the first such byte, or all, and what stands behind it, if it is there
abbrev pub part_before : ℕ → List ℕ → List ℕ
part_before byte text = before_first (λ b. b == byte) text

abbrev pub part_behind : ℕ → List ℕ → Option (List ℕ)
part_behind byte text = if nat_lt (position_or_len (λ b. b == byte) text) (length text) then Some (after_first (λ b. b == byte) text) else None

-- decimal digits, and the number below a bound that they are, at least one
abbrev pub are_digits : List ℕ → Bool
are_digits [] = true
are_digits (byte ∷ text) = is_digit byte 10 && are_digits text

abbrev pub number_below : ℕ → List ℕ → Option ℕ
number_below bound text = if nat_lt 0 (length text) && (are_digits text && nat_lt (digits_value 10 text) bound) then Some (digits_value 10 text) else None

-- A range: the first number and the last, with `-` between them, and the step behind a `/`, or 1. Numbers have 31 bits;
-- the last is not before the first, the step is not 0, and at most 65,536 numbers are reached.
abbrev pub step_of : Option (List ℕ) → Option ℕ
step_of None = Some 1
step_of (Some text) = number_below (2 ^ 31) text

pub record IsRange (text : List ℕ) (range : NumberRange) : Type 0 where
  pub behind : List ℕ
  pub parted : part_behind 45 text ≡ Some behind
  pub first : number_below (2 ^ 31) (part_before 45 text) ≡ Some range.first
  pub last : number_below (2 ^ 31) (part_before 47 behind) ≡ Some range.last
  pub step : step_of (part_behind 47 behind) ≡ Some range.step
  pub forward : range.first ≤ range.last
  pub some : 0 < range.step
  pub few : range.last < range.first + 65536 * range.step

-- The numbers that a range reaches from its first on, step by step, are so many.
abbrev pub Reaches : NumberRange → ℕ → Type 0
Reaches range count = (k : ℕ) → (k < count → range.first + k * range.step ≤ range.last) × (range.first + k * range.step ≤ range.last → k < count)

-- The form of a number, as braces hold it: what is added, with a sign or without, the least width, of at most 127, and
-- a letter for the base, with commas between. Where width and base are left out, they are 0 and decimal.
abbrev pub width_in : Option (List ℕ) → Option ℕ
width_in None = Some 0
width_in (Some text) = number_below 128 (part_before 44 text)

abbrev pub base_of : List ℕ → Option NumberBase
base_of (letter ∷ []) = if letter == 100 then Some Decimal else if letter == 111 then Some Octal else if letter == 120 then Some Hex else if letter == 88 then Some UpperHex else if letter == 110 then Some Nibbles else if letter == 78 then Some UpperNibbles else None
base_of text = None

abbrev pub base_last : Option (List ℕ) → Option NumberBase
base_last None = Some Decimal
base_last (Some text) = base_of text

abbrev pub base_in : Option (List ℕ) → Option NumberBase
base_in None = Some Decimal
base_in (Some text) = base_last (part_behind 44 text)

abbrev pub form_of_parts : Bool → Option ℕ → Option ℕ → Option NumberBase → Option NumberForm
form_of_parts less (Some offset) (Some width) (Some base) = Some (record { less = less; offset = offset; width = width; base = base })
form_of_parts less offset width base = None

abbrev pub form_of : List ℕ → Option NumberForm
form_of text = form_of_parts (starts_with_minus (part_before 44 text)) (number_below (2 ^ 31) (without_leading_sign (part_before 44 text))) (width_in (part_behind 44 text)) (base_in (part_behind 44 text))

-- a number with its offset, of 31 bits and not below 0
abbrev pub moved : NumberForm → ℕ → Option ℕ
moved form number = if form.less then (if nat_lt number form.offset then None else Some (number - form.offset)) else if nat_lt (number + form.offset) (2 ^ 31) then Some (number + form.offset) else None

-- hexadecimal digits as names below ip6.arpa have them, the last first, with dots between them, in so many bytes (RFC
-- 3596 section 2.5)
abbrev pub nibbles : Bool → ℕ → ℕ → List ℕ
nibbles upper zero number = []
nibbles upper (suc zero) number = digit_glyph upper (number % 16) ∷ []
nibbles upper (suc (suc len)) number = digit_glyph upper (number % 16) ∷ 46 ∷ nibbles upper len (number / 16)

-- how many bytes nibbles have: all digits and dots between them, or as many as the width
abbrev pub nibbles_len : ℕ → ℕ → ℕ
nibbles_len width number = max width (2 * length (digits 16 false number) - 1)

-- digits, and zeros before them where the width is greater
abbrev pub padded : ℕ → List ℕ → List ℕ
padded width digits = replicate (width - length digits) 48 ++ digits

-- a number in its base, of at least the width
abbrev pub number_text : NumberBase → ℕ → ℕ → List ℕ
number_text Decimal width number = padded width (decimal number)
number_text Octal width number = padded width (digits 8 false number)
number_text Hex width number = padded width (digits 16 false number)
number_text UpperHex width number = padded width (digits 16 true number)
number_text Nibbles width number = nibbles false (nibbles_len width number) number
number_text UpperNibbles width number = nibbles true (nibbles_len width number) number

-- What a text begins with stands for some bytes, and the rest stands behind it: a byte for itself, with the one behind
-- it where it is a backslash (in quotes, `\"` stands for `"`); `$$` for a dollar sign; `${` and a form up to `}` for
-- the number in that form; and another `$` for the number in decimal digits.
abbrev pub Front : Type 0
Front = Option (List ℕ × List ℕ)

abbrev pub escaped : Bool → List ℕ → Front
escaped quoted [] = Some (92 ∷ [], [])
escaped quoted (byte ∷ behind) = if quoted && (byte == 34) then Some (34 ∷ [], behind) else Some (92 ∷ byte ∷ [], behind)

abbrev pub shown : NumberForm → Option ℕ → List ℕ → Front
shown form None behind = None
shown form (Some number) behind = Some (number_text form.base form.width number, behind)

abbrev pub formed : ℕ → Option NumberForm → Option (List ℕ) → Front
formed number (Some form) (Some behind) = shown form (moved form number) behind
formed number form behind = None

abbrev pub dollar : ℕ → List ℕ → Front
dollar number [] = Some (decimal number, [])
dollar number (byte ∷ behind) = if byte == 36 then Some (36 ∷ [], behind) else if byte == 123 then formed number (form_of (part_before 125 behind)) (part_behind 125 behind) else Some (decimal number, byte ∷ behind)

abbrev pub front_of : Bool → ℕ → List ℕ → Front
front_of quoted number [] = None
front_of quoted number (byte ∷ behind) = if byte == 36 then dollar number behind else if byte == 92 then escaped quoted behind else Some (byte ∷ [], behind)

-- A text, in quotes or not, with a number for its dollar signs.
pub data IsNumbered (quoted : Bool) (number : ℕ) : List ℕ → List ℕ → Type 0 where
  nothing : IsNumbered quoted number [] []
  more : {text own behind rest : List ℕ} → front_of quoted number text ≡ Some (own, behind) → IsNumbered quoted number behind rest → IsNumbered quoted number text (own ++ rest)
