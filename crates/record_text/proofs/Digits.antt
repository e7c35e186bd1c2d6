-- Digits that are none, and digits of too great a number; groups of digits in base 32.
use Rattle.std.proofs.Common.{◌≡◌, ◌∙◌, ◌+◌, ◌-◌, ◌*◌, Option, None, Some, ◌^◌, ◌<◌, ◌≤◌, ℕ, zero, suc, List, [], ◌∷◌, ◌++◌, length, take, drop, get_or, sym, ap, subst, refl, inl, inr, arith, length-append}
use Rattle.std.proofs.lemmas.Bool.{cases_eq, cases_lt, ne_eqb}
use Rattle.std.proofs.lemmas.List.{drop_at, drop-append-le, take-append-le, length-drop}
use Rattle.std.proofs.lemmas.Int.Digits.{digits_value-lt, digits_value_more}
use Rattle.std.proofs.lemmas.Str.Parse.{digits_value-take-le}
use Rattle.std.specs.Char.{digit_value}
use Rattle.std.specs.Int.{w64, to_be_bytes}
use Rattle.std.specs.Str.Parse.{AllDigits, digits_value}
use Rattle.record_text.specs.Groups.{IsBase32, IsHex, IsLastGroup, SpellsBase32, SpellsGroups, last_group}
use Rattle.record_text.specs.Groups.IsLastGroup.{nothing, some}
use Rattle.record_text.specs.Groups.SpellsGroups.{none, more}

pub digit_in : (radix : ℕ) (ds : List ℕ) (i : ℕ) → AllDigits radix ds → i < length ds → digit_value (get_or ds i 0) < radix
digit_in radix [] i all below = absurd (omega arith)
digit_in radix (c ∷ cs) zero all below = all.0
digit_in radix (c ∷ cs) (suc i) all below = digit_in radix cs i all.1 (omega arith)

-- with the digit at a place the number is too great
pub too_great : (radix : ℕ) (ds : List ℕ) (i number limit : ℕ) → i < length ds → 1 ≤ radix → digits_value radix (take i ds) ≡ number → limit ≤ number * radix + digit_value (get_or ds i 0) → limit ≤ digits_value radix ds
too_great radix ds i number limit below one so_far great =
    let more_is : digits_value radix (take (i + 1) ds) ≡ digits_value radix (take i ds) * radix + digit_value (get_or ds i 0) = digits_value_more radix ds i below in
    let same : digits_value radix (take i ds) * radix ≡ number * radix = ap (λ (n : ℕ). n * radix) so_far in
    let whole : digits_value radix (take (i + 1) ds) ≤ digits_value radix ds = digits_value-take-le radix ds (i + 1) one in
    omega arith

-- whole groups have eight digits each
pub eights : {text octets : List ℕ} → SpellsGroups text octets → (k : ℕ) × (length text ≡ 8 * k)
eights none = (0, refl)
eights (more {text = text} {piece = piece} n before eight is) =
    let rest : (k : ℕ) × (length text ≡ 8 * k) = eights before in
    (rest.0 + 1, omega (arith, length-append text piece, rest.1, eight))

-- each group is the number of its digits
pub group_at : {text octets : List ℕ} → SpellsGroups text octets → (k : ℕ) → 8 * k + 8 ≤ length text → (n : ℕ) × IsBase32 (take 8 (drop (8 * k) text)) n
group_at none k within = absurd (omega arith)
group_at (more {text = text} {piece = piece} n before eight is) k within = elim (cases_lt (8 * k) (length text)) [
  | inl below ↦
      let all : (j : ℕ) × (length text ≡ 8 * j) = eights before in
      let inside : 8 * k + 8 ≤ length text = omega (arith, all.1) in
      let at : (m : ℕ) × IsBase32 (take 8 (drop (8 * k) text)) m = group_at before k inside in
      let same : take 8 (drop (8 * k) (text ++ piece)) ≡ take 8 (drop (8 * k) text) =
      ap (λ (t : List ℕ). take 8 t) (drop-append-le (8 * k) text piece (omega arith)) ∙ take-append-le 8 (drop (8 * k) text) piece (omega (arith, length-drop (8 * k) text)) in
      (at.0, subst (λ (t : List ℕ). IsBase32 t at.0) (sym same) at.1)
  | inr last ↦
      let all : (j : ℕ) × (length text ≡ 8 * j) = eights before in
      let here : length text ≡ 8 * k = omega (arith, length-append text piece, all.1, eight, within, last) in
      let same : take 8 (drop (8 * k) (text ++ piece)) ≡ piece = ap (λ (t : List ℕ). take 8 t) (drop_at text piece (8 * k) here) ∙ subst (λ (m : ℕ). take m piece ≡ piece) eight (take_whole piece) in
      (n, subst (λ (t : List ℕ). IsBase32 t n) (sym same) is)
]
  where
    take_whole : (t : List ℕ) → take (length t) t ≡ t
    take_whole [] = refl
    take_whole (c ∷ cs) = ap (λ (t : List ℕ). c ∷ t) (take_whole cs)

-- a group's number has forty bits
pub forty_bits : (piece : List ℕ) (n : ℕ) → length piece ≡ 8 → IsBase32 piece n → n < 2 ^ 64
forty_bits piece n eight is =
    let small : digits_value 32 piece < 32 ^ length piece = digits_value-lt 32 piece is.digits in
    let less : digits_value 32 piece < 32 ^ 8 = subst (λ (m : ℕ). digits_value 32 piece < 32 ^ m) eight small in
    omega (arith, less, is.value)

-- eight digits are five octets
pub group_octets : {text octets : List ℕ} → SpellsGroups text octets → 5 * length text ≡ 8 * length octets
group_octets none = refl
group_octets (more {text = text} {piece = piece} {octets = octets} n before eight is) =
    let rest : 5 * length text ≡ 8 * length octets = group_octets before in
    omega (arith, length-append text piece, length-append octets (drop 3 (to_be_bytes w64 n)), rest, eight, five n)
  where
    five : (n : ℕ) → length (drop 3 (to_be_bytes w64 n)) ≡ 5
    five n = refl

-- a last group has two to seven digits, whose bits fill its octets but no further one
pub record IsLastCount (digits count greater : ℕ) : Type 0 where
  pub more : 0 < digits
  pub few : digits < 8
  pub within : count ≤ 8
  pub some : 0 < greater
  pub filled : 8 * count ≤ 5 * digits
  pub whole : 5 * digits < 8 * count + 8

abbrev octets_of : Option (ℕ × ℕ) → ℕ
octets_of None = 0
octets_of (Some last) = last.0

abbrev greater_of : Option (ℕ × ℕ) → ℕ
greater_of None = 0
greater_of (Some last) = last.1

-- two counts of the same digits are the same
pub same_greater : (found : Option (ℕ × ℕ)) (count greater count' greater' : ℕ) → found ≡ Some (count, greater) → found ≡ Some (count', greater') → greater ≡ greater'
same_greater found count greater count' greater' one two = ap greater_of (sym one ∙ two)

is_count : (d k g digits count greater : ℕ) → digits ≡ d → last_group d ≡ Some (k, g) → last_group digits ≡ Some (count, greater) → 0 < d → d < 8 → k ≤ 8 → 0 < g → 8 * k ≤ 5 * d → 5 * d < 8 * k + 8 → IsLastCount digits count greater
is_count d k g digits count greater same is told begun few within high filled whole =
    let at : last_group d ≡ Some (count, greater) = sym (ap last_group same) ∙ told in
    let octets : k ≡ count = ap octets_of (sym is ∙ at) in
    let greater_is : g ≡ greater = ap greater_of (sym is ∙ at) in
    record {
      more = omega (arith, same, begun);
      few = omega (arith, same, few);
      within = omega (arith, octets, within);
      some = omega (arith, greater_is, high);
      filled = omega (arith, octets, same, filled);
      whole = omega (arith, octets, same, whole);
    }

no_count : (digits : ℕ) → (digits ≡ 2 → ⊥) → (digits ≡ 4 → ⊥) → (digits ≡ 5 → ⊥) → (digits ≡ 7 → ⊥) → last_group digits ≡ None
no_count digits a b c d = rw (ne_eqb digits 2 a, ne_eqb digits 4 b, ne_eqb digits 5 c, ne_eqb digits 7 d) refl

pub last_count : (digits count greater : ℕ) → last_group digits ≡ Some (count, greater) → IsLastCount digits count greater
last_count digits count greater told = elim (cases_eq digits 2) [
  | inl two ↦ is_count 2 1 4 digits count greater two refl told (omega arith) (omega arith) (omega arith) (omega arith) (omega arith) (omega arith)
  | inr a ↦ elim (cases_eq digits 4) [
    | inl four ↦ is_count 4 2 16 digits count greater four refl told (omega arith) (omega arith) (omega arith) (omega arith) (omega arith) (omega arith)
    | inr b ↦ elim (cases_eq digits 5) [
      | inl five ↦ is_count 5 3 2 digits count greater five refl told (omega arith) (omega arith) (omega arith) (omega arith) (omega arith) (omega arith)
      | inr d ↦ elim (cases_eq digits 7) [
        | inl seven ↦ is_count 7 4 8 digits count greater seven refl told (omega arith) (omega arith) (omega arith) (omega arith) (omega arith) (omega arith)
        | inr e ↦ let missing : last_group digits ≡ None = no_count digits a b d e in absurd (cc)
      ]
    ]
  ]
]

pub last_len : {piece octets : List ℕ} → IsLastGroup piece octets → (length piece < 8) × (8 * length octets ≤ 5 * length piece) × (5 * length piece < 8 * length octets + 8)
last_len nothing = (omega arith, omega arith, omega arith)
last_len (some {piece = piece} n count greater told is) =
    let f : IsLastCount (length piece) count greater = last_count (length piece) count greater told in
    let len : length (drop (8 - count) (to_be_bytes w64 n)) ≡ count = omega (arith, length-drop (8 - count) (to_be_bytes w64 n), eight n, f.within) in
    (f.few, omega (arith, len, f.filled), omega (arith, len, f.whole))
  where
    eight : (n : ℕ) → length (to_be_bytes w64 n) ≡ 8
    eight n = refl

-- digits in base 32 are as many octets as their bits fill
pub base32_len : {text octets : List ℕ} → SpellsBase32 text octets → (8 * length octets ≤ 5 * length text) × (5 * length text < 8 * length octets + 8)
base32_len {text = text} {octets = octets} is =
    let front : 5 * length is.front ≡ 8 * length is.front_octets = group_octets is.groups in
    let last = last_len is.ended in
    let digits : length text ≡ length is.front + length is.last = ap length is.in_order ∙ length-append is.front is.last in
    let all : length octets ≡ length is.front_octets + length is.last_octets = ap length is.together ∙ length-append is.front_octets is.last_octets in
    (omega (arith, front, last.1, digits, all), omega (arith, front, last.2, digits, all))

-- each eight digits within a text are a group
pub group_within : {text octets : List ℕ} → SpellsBase32 text octets → (k : ℕ) → 8 * k + 8 ≤ length text → (n : ℕ) × IsBase32 (take 8 (drop (8 * k) text)) n
group_within {text = text} is k within =
    let digits : length text ≡ length is.front + length is.last = ap length is.in_order ∙ length-append is.front is.last in
    let all : (j : ℕ) × (length is.front ≡ 8 * j) = eights is.groups in
    let inside : 8 * k + 8 ≤ length is.front = omega (arith, digits, all.1, (last_len is.ended).0, within) in
    let at : (n : ℕ) × IsBase32 (take 8 (drop (8 * k) is.front)) n = group_at is.groups k inside in
    let same : take 8 (drop (8 * k) text) ≡ take 8 (drop (8 * k) is.front) =
    ap (λ (t : List ℕ). take 8 (drop (8 * k) t)) is.in_order ∙ ap (λ (t : List ℕ). take 8 t) (drop-append-le (8 * k) is.front is.last (omega (arith, inside)))
    ∙ take-append-le 8 (drop (8 * k) is.front) is.last (omega (arith, length-drop (8 * k) is.front, inside)) in
    (at.0, subst (λ (t : List ℕ). IsBase32 t at.0) (sym same) at.1)

-- what is behind whole groups is the last one, where it is less than eight digits
pub last_within : {text octets : List ℕ} → (is : SpellsBase32 text octets) → (k : ℕ) → 8 * k ≤ length text → length text < 8 * k + 8 → IsLastGroup (drop (8 * k) text) is.last_octets
last_within {text = text} is k within few =
    let digits : length text ≡ length is.front + length is.last = ap length is.in_order ∙ length-append is.front is.last in
    let all : (j : ℕ) × (length is.front ≡ 8 * j) = eights is.groups in
    let here : length is.front ≡ 8 * k = omega (arith, digits, all.1, (last_len is.ended).0, within, few) in
    let same : drop (8 * k) text ≡ is.last = ap (λ (t : List ℕ). drop (8 * k) t) is.in_order ∙ drop_at is.front is.last (8 * k) here in
    subst (λ (t : List ℕ). IsLastGroup t is.last_octets) (sym same) is.ended

-- the number of a last group has few bits
pub last_bits : (piece : List ℕ) (n : ℕ) → length piece < 8 → IsBase32 piece n → n < 2 ^ 64
last_bits piece n few is = omega (arith, is.value, small piece few (digits_value-lt 32 piece is.digits)) where
  small : (digits : List ℕ) → length digits < 8 → digits_value 32 digits < 32 ^ length digits → digits_value 32 digits < 2 ^ 64
  small [] few less = omega (arith, less)
  small (a ∷ []) few less = omega (arith, less)
  small (a ∷ b ∷ []) few less = omega (arith, less)
  small (a ∷ b ∷ c ∷ []) few less = omega (arith, less)
  small (a ∷ b ∷ c ∷ d ∷ []) few less = omega (arith, less)
  small (a ∷ b ∷ c ∷ d ∷ e ∷ []) few less = omega (arith, less)
  small (a ∷ b ∷ c ∷ d ∷ e ∷ f ∷ []) few less = omega (arith, less)
  small (a ∷ b ∷ c ∷ d ∷ e ∷ f ∷ g ∷ []) few less = omega (arith, less)
  small (a ∷ b ∷ c ∷ d ∷ e ∷ f ∷ g ∷ h ∷ digits) few less = absurd (omega arith)

-- two digits are a number of eight bits, and four at most one of sixteen
pub eight_bits : (digits : List ℕ) (n : ℕ) → length digits ≡ 2 → IsHex digits n → n < 256
eight_bits digits n two is =
    let small : digits_value 16 digits < 16 ^ length digits = digits_value-lt 16 digits is.digits in
    let less : digits_value 16 digits < 16 ^ 2 = subst (λ (m : ℕ). digits_value 16 digits < 16 ^ m) two small in
    omega (arith, less, is.value)

pub sixteen_bits : (digits : List ℕ) (n : ℕ) → length digits ≤ 4 → IsHex digits n → n < 2 ^ 16
sixteen_bits digits n few is = omega (arith, is.value, small digits few (digits_value-lt 16 digits is.digits)) where
  small : (digits : List ℕ) → length digits ≤ 4 → digits_value 16 digits < 16 ^ length digits → digits_value 16 digits < 65536
  small [] few less = omega (arith, less)
  small (a ∷ []) few less = omega (arith, less)
  small (a ∷ b ∷ []) few less = omega (arith, less)
  small (a ∷ b ∷ c ∷ []) few less = omega (arith, less)
  small (a ∷ b ∷ c ∷ d ∷ []) few less = omega (arith, less)
  small (a ∷ b ∷ c ∷ d ∷ e ∷ digits) few less = absurd (omega arith)
