-- Numbers with units that are refused where some of their text is read.
use Rattle.std.proofs.Common.{◌≡◌, ◌∙◌, ℕ, ◌+◌, ◌*◌, ◌^◌, ◌<◌, ◌≤◌, List, [], ◌∷◌, ◌++◌, Some, None, length, get_or, take, drop, sym, ap, subst, refl, arith, length-append}
use Rattle.std.proofs.Math.Nat.{mul-le-mul_right, mul_comm}
use Rattle.std.proofs.lemmas.List.{drop_more, take-append-drop}
use Rattle.std.proofs.lemmas.Str.Parse.{digit_from_value}
use Rattle.std.proofs.lemmas.Bool.Decides.{nat_tests}
use Rattle.std.specs.Char.{digit_value}
use Rattle.std.specs.Int.{IsInRange, IsOutOfRange}
use Rattle.std.specs.Str.Parse.{AllDigits, digits_value, digits_value_after}
use Rattle.text_words.specs.Spelling.{IsNoNumber, IsNumber, unit_seconds}
use Rattle.text_words.proofs.SpelledOnce.{InUnits, heads, no_digits, span_once, unit_no_digit}
use Rattle.text_words.proofs.SpelledOnce.InUnits.{no_units, unit_first}

-- more digits make no lesser number
after_more : (n m : ℕ) (ds : List ℕ) → n ≤ m → n ≤ digits_value_after 10 m ds
after_more n m [] less = less
after_more n m (d ∷ ds) less = after_more n (m * 10 + digit_value d) ds (omega (arith, less))

after_append : (n : ℕ) (ds es : List ℕ) → digits_value_after 10 n ds ≤ digits_value_after 10 n (ds ++ es)
after_append n [] es = after_more n n es (omega arith)
after_append n (d ∷ ds) es = after_append (n * 10 + digit_value d) ds es

pub value_append : (ds es : List ℕ) → digits_value 10 ds ≤ digits_value 10 (ds ++ es)
value_append ds es = after_append 0 ds es

-- the number of digits is no less than that of the first of them
pub value_front : (text : List ℕ) (i : ℕ) → digits_value 10 (take i text) ≤ digits_value 10 text
value_front text i = subst (λ (t : List ℕ). digits_value 10 (take i text) ≤ digits_value 10 t) (take-append-drop i text) (value_append (take i text) (drop i text))

pub too_great : (text : List ℕ) (i : ℕ) → 2 ^ 32 ≤ digits_value 10 (take i text) → IsNoNumber text
too_great text i great n is short = omega (arith, great, short, is.value, value_front text i)

pub out_of_digits : (byte : ℕ) → IsOutOfRange 48 57 byte → digit_value byte < 10 → ⊥
out_of_digits byte other digit = let range : IsInRange 48 57 byte = digit_from_value byte digit in grind (arith, range, other)

-- one byte of all digits is a digit
digit_within : (front back : List ℕ) (byte : ℕ) → AllDigits 10 (front ++ byte ∷ back) → digit_value byte < 10
digit_within [] back byte all = all.0
digit_within (d ∷ front) back byte all = digit_within front back byte all.1

pub digit_at : (text front back : List ℕ) (byte : ℕ) → text ≡ (front ++ byte ∷ back) → AllDigits 10 text → digit_value byte < 10
digit_at text front back byte parts all = digit_within front back byte (subst (AllDigits 10) parts all)

pub no_digit_at : (text : List ℕ) (i : ℕ) → i < length text → IsOutOfRange 48 57 (get_or text i 0) → AllDigits 10 text → ⊥
no_digit_at text i within other all =
    let parts : text ≡ (take i text ++ get_or text i 0 ∷ drop (i + 1) text) = sym (take-append-drop i text) ∙ ap (λ (u : List ℕ). take i text ++ u) (drop_more text i 0 within) in
    out_of_digits (get_or text i 0) other (digit_at text (take i text) (drop (i + 1) text) (get_or text i 0) parts all)

-- digits before a byte that is no digit, and other digits before a unit
same_span : (ds es r s : List ℕ) (u v n : ℕ) → AllDigits 10 ds → AllDigits 10 es → (digit_value u < 10 → ⊥) → unit_seconds v ≡ Some n → (ds ++ u ∷ r) ≡ (es ++ v ∷ s) → (ds ≡ es) × (u ≡ v) × (r ≡ s)
same_span [] [] r s u v n all all' other is e = let h = heads u v r s e in (refl, h.0, h.1)
same_span [] (d ∷ es) r s u v n all all' other is e = absurd (other (subst (λ (x : ℕ). digit_value x < 10) (sym (heads u d r (es ++ v ∷ s) e).0) all'.0))
same_span (d ∷ ds) [] r s u v n all all' other is e = absurd (unit_no_digit v n is (subst (λ (x : ℕ). digit_value x < 10) (heads d v (ds ++ u ∷ r) s e).0 all.0))
same_span (d ∷ ds) (b ∷ es) r s u v n all all' other is e =
    let h : (d ≡ b) × ((ds ++ u ∷ r) ≡ (es ++ v ∷ s)) = heads d b (ds ++ u ∷ r) (es ++ v ∷ s) e in
    let tail : (ds ≡ es) × (u ≡ v) × (r ≡ s) = same_span ds es r s u v n all.1 all'.1 other is h.1 in
    (rw (h.0, tail.0) refl, tail.1, tail.2)

-- the first number of a text, and its unit
first_of : (t ds rest : List ℕ) (byte n seconds left : ℕ) → IsNumber ds n → unit_seconds byte ≡ Some seconds → t ≡ (ds ++ byte ∷ rest) → InUnits t left → (behind : ℕ) × InUnits rest behind × (left ≡ n * seconds + behind)
first_of t ds rest byte n seconds left number is e no_units = absurd (no_digits ds rest byte e)
first_of t ds rest byte n seconds left number is e (unit_first {digits = es} {rest = s} {n = m} {seconds = x} {left = behind} v own is_own then) =
    let same : (es ≡ ds) × (v ≡ byte) × (s ≡ rest) = span_once es ds s rest v byte x seconds own.digits.1 number.digits.1 is_own is e in
    let value : m ≡ n = sym own.value ∙ ap (λ (d : List ℕ). digits_value 10 d) same.0 ∙ number.value in
    let unit : Some x ≡ Some seconds = sym is_own ∙ ap (λ (k : ℕ). unit_seconds k) same.1 ∙ is in
    let second : x ≡ seconds = cc in
    (behind, subst (λ (u : List ℕ). InUnits u behind) same.2 then, rw (value, second) refl)

pub first_unit : (ds rest : List ℕ) (byte n seconds left : ℕ) → IsNumber ds n → unit_seconds byte ≡ Some seconds → InUnits (ds ++ byte ∷ rest) left → (behind : ℕ) × InUnits rest behind × (left ≡ n * seconds + behind)
first_unit ds rest byte n seconds left number is all = first_of (ds ++ byte ∷ rest) ds rest byte n seconds left number is refl all

-- behind digits stands a unit
unit_of : (t ds rest : List ℕ) (byte left : ℕ) → AllDigits 10 ds → (digit_value byte < 10 → ⊥) → unit_seconds byte ≡ None → t ≡ (ds ++ byte ∷ rest) → InUnits t left → ⊥
unit_of t ds rest byte left all other none e no_units = no_digits ds rest byte e
unit_of t ds rest byte left all other none e (unit_first {digits = es} {rest = s} {seconds = x} v own is then) =
    let same : (ds ≡ es) × (byte ≡ v) × (rest ≡ s) = same_span ds es rest s byte v x all own.digits.1 other is (sym e) in
    let unit : None ≡ Some x = sym none ∙ ap (λ (k : ℕ). unit_seconds k) same.1 ∙ is in
    cc

pub unit_at : (ds rest : List ℕ) (byte left : ℕ) → AllDigits 10 ds → (digit_value byte < 10 → ⊥) → unit_seconds byte ≡ None → InUnits (ds ++ byte ∷ rest) left → ⊥
unit_at ds rest byte left all other none is = unit_of (ds ++ byte ∷ rest) ds rest byte left all other none refl is

-- the first byte is a digit
first_is_digit : (t rest : List ℕ) (byte left : ℕ) → (digit_value byte < 10 → ⊥) → t ≡ (byte ∷ rest) → InUnits t left → ⊥
first_is_digit t rest byte left other e no_units = cc
first_is_digit t rest byte left other e (unit_first {digits = []} {rest = s} v own is then) = omega (arith, own.digits.0)
first_is_digit t rest byte left other e (unit_first {digits = d ∷ es} {rest = s} v own is then) =
    other (subst (λ (x : ℕ). digit_value x < 10) (heads d byte (es ++ v ∷ s) rest e).0 own.digits.1.0)

pub digit_first : (rest : List ℕ) (byte left : ℕ) → (digit_value byte < 10 → ⊥) → InUnits (byte ∷ rest) left → ⊥
digit_first rest byte left other is = first_is_digit (byte ∷ rest) rest byte left other refl is

-- all digits before a unit begin with those that are read
front_digits : (ds es r s : List ℕ) (v n : ℕ) → AllDigits 10 ds → unit_seconds v ≡ Some n → (ds ++ r) ≡ (es ++ v ∷ s) → (more : List ℕ) × (es ≡ (ds ++ more))
front_digits [] es r s v n all is e = (es, refl)
front_digits (d ∷ ds) [] r s v n all is e = absurd (unit_no_digit v n is (subst (λ (x : ℕ). digit_value x < 10) (heads d v (ds ++ r) s e).0 all.0))
front_digits (d ∷ ds) (b ∷ es) r s v n all is e =
    let h : (d ≡ b) × ((ds ++ r) ≡ (es ++ v ∷ s)) = heads d b (ds ++ r) (es ++ v ∷ s) e in
    let tail = front_digits ds es r s v n all.1 is h.1 in
    (tail.0, ap (λ (c : List ℕ). b ∷ c) tail.1 ∙ ap (λ (x : ℕ). x ∷ (ds ++ tail.0)) (sym h.0))

some_seconds : (v n : ℕ) → unit_seconds v ≡ Some n → 0 < n
some_seconds v n is = grind (arith, nat_tests)

product_at_least : (m x : ℕ) → 0 < x → m ≤ m * x
product_at_least m x some = let one : 1 ≤ x = omega (arith, some) in omega (arith, mul-le-mul_right m one, mul_comm m x)

at_most : (t ds rest : List ℕ) (left : ℕ) → AllDigits 10 ds → 0 < length ds → t ≡ (ds ++ rest) → InUnits t left → digits_value 10 ds ≤ left
at_most t ds rest left all some e no_units = absurd (omega (arith, ap length e, length-append ds rest, some))
at_most t ds rest left all some e (unit_first {digits = es} {rest = s} {n = m} {seconds = x} {left = behind} v own is then) =
    let more = front_digits ds es rest s v x all is (sym e) in
    let greater : digits_value 10 ds ≤ m = omega (arith, value_append ds more.0, ap (λ (d : List ℕ). digits_value 10 d) more.1, own.value) in
    omega (arith, greater, product_at_least m x (some_seconds v x is))

-- digits are no more than what they spell with the unit behind them
pub digits_at_most : (ds rest : List ℕ) (left : ℕ) → AllDigits 10 ds → 0 < length ds → InUnits (ds ++ rest) left → digits_value 10 ds ≤ left
digits_at_most ds rest left all some is = at_most (ds ++ rest) ds rest left all some refl is
