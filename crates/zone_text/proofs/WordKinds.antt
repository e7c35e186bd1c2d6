-- A word is a TTL, the class IN or a type, and no two of them.
use Rattle.std.proofs.Common.{◌≡◌, ◌∙◌, ◌<◌, ◌≤◌, ℕ, zero, suc, Bool, true, false, List, [], ◌∷◌, ◌++◌, length, take, get_or, sym, ap, subst, refl, arith}
use Rattle.std.proofs.lemmas.Bool.{and_parts}
use Rattle.std.proofs.lemmas.Bool.Decides.{nat_tests}
use Rattle.std.proofs.lemmas.List.{map-append}
use Rattle.std.proofs.lemmas.Slice.Eq.{bytes_eq-Decides}
use Rattle.std.proofs.lemmas.Str.Parse.{digit_from_value}
use Rattle.std.specs.Char.{digit_value, to_ascii_lowercase}
use Rattle.std.specs.Int.{IsInRange}
use Rattle.std.specs.Prelude.{◌&&◌, bytes_eq, codes, map, nat_lt, not}
use Rattle.text_words.specs.declared.words.Word.{Word}
use Rattle.text_words.specs.Spelling.{IsNumber, SpellsTime, SpellsUnits}
use Rattle.text_words.specs.Spelling.SpellsTime.{seconds, units}
use Rattle.text_words.specs.Spelling.SpellsUnits.{nothing, more}
use Rattle.record_text.specs.RecordText.{SpellsType}
use Rattle.record_text.specs.RecordText.SpellsType.{mnemonic, numbered}
use Rattle.record_text.specs.TypeTable.{TypeRow, rows}
use Rattle.zone_text.specs.ZoneFiles.{IsClass1, IsClassIn, IsTtl, IsTypeWord}
use Rattle.zone_text.specs.ZoneFiles.IsClassIn.{mnemonic as of_letters, numbered as of_number}

abbrev pub low : List ℕ → List ℕ
low text = map to_ascii_lowercase text

-- the first byte of a text in lower case, or 0
abbrev pub first : List ℕ → ℕ
first text = get_or (low text) 0 0

-- a mnemonic begins with a letter, and neither is the class IN nor begins as its number does
abbrev is_apart : TypeRow → Bool
is_apart row = nat_lt 96 (first row.mnemonic) && (not (bytes_eq (low row.mnemonic) (codes "in")) && not (bytes_eq (take 5 (low row.mnemonic)) (codes "class")))

abbrev all_apart : List TypeRow → Bool
all_apart [] = true
all_apart (row ∷ others) = is_apart row && all_apart others

apart_at : (some : List TypeRow) → all_apart some ≡ true → (k : ℕ) (row : TypeRow) → k < length some → get_or some k row ≡ row → is_apart row ≡ true
apart_at [] all k row below at = absurd (omega arith)
apart_at (head ∷ others) all zero row below at = subst (λ (r : TypeRow). is_apart r ≡ true) at (and_parts (is_apart head) (all_apart others) all).0
apart_at (head ∷ others) all (suc k) row below at = apart_at others (and_parts (is_apart head) (all_apart others) all).1 k row (omega arith) at

rows_apart : all_apart rows ≡ true
rows_apart = refl

-- what is told of the letters of a type
record IsApart (text : List ℕ) : Type 0 where
  letter : 96 < first text
  not_in : low text ≡ codes "in" → ⊥
  not_class : take 5 (low text) ≡ codes "class" → ⊥

not_true : (b : Bool) → not b ≡ true → b ≡ true → ⊥
not_true true e f = cc
not_true false e f = cc

of_row : (row : TypeRow) → is_apart row ≡ true → IsApart row.mnemonic
of_row row is =
    let one = and_parts (nat_lt 96 (first row.mnemonic)) (not (bytes_eq (low row.mnemonic) (codes "in")) && not (bytes_eq (take 5 (low row.mnemonic)) (codes "class"))) is in
    let two = and_parts (not (bytes_eq (low row.mnemonic) (codes "in"))) (not (bytes_eq (take 5 (low row.mnemonic)) (codes "class"))) one.1 in
    record {
      letter = letter_of (first row.mnemonic) one.0;
      not_in = λ e. not_true (bytes_eq (low row.mnemonic) (codes "in")) two.0 ((bytes_eq-Decides (low row.mnemonic) (codes "in")).1 e);
      not_class = λ e. not_true (bytes_eq (take 5 (low row.mnemonic)) (codes "class")) two.1 ((bytes_eq-Decides (take 5 (low row.mnemonic)) (codes "class")).1 e);
    } where
      letter_of : (n : ℕ) → nat_lt 96 n ≡ true → 96 < n
      letter_of n e = grind (arith, nat_tests)

moved : (a b : List ℕ) → low a ≡ low b → IsApart a → IsApart b
moved a b same is = record {
  letter = subst (λ (t : List ℕ). 96 < get_or t 0 0) same is.letter;
  not_in = λ e. is.not_in (same ∙ e);
  not_class = λ e. is.not_class (ap (λ (t : List ℕ). take 5 t) same ∙ e);
}

lead : (front digits : List ℕ) (letters : List ℕ) → letters ≡ low front → low (front ++ digits) ≡ (letters ++ low digits)
lead front digits letters same = map-append to_ascii_lowercase front digits ∙ ap (λ (t : List ℕ). t ++ low digits) (sym same)

type_apart : (text : List ℕ) (n : ℕ) → SpellsType text n → IsApart text
type_apart text n (mnemonic (k, row, below, at, named)) = moved row.mnemonic text named.1 (of_row row (apart_at rows rows_apart k row below at))
type_apart text n (numbered is) =
    let all : low text ≡ (codes "type" ++ low is.digits) = ap low is.in_order ∙ lead is.front is.digits (codes "type") is.letters in
    record {
      letter = subst (λ (t : List ℕ). 96 < get_or t 0 0) (sym all) (omega arith);
      not_in = λ e. let one : get_or (low text) 0 0 ≡ 116 = ap (λ (t : List ℕ). get_or t 0 0) all in let two : get_or (low text) 0 0 ≡ 105 = ap (λ (t : List ℕ). get_or t 0 0) e in omega (arith, one, two);
      not_class = λ e.
          let one : get_or (take 5 (low text)) 0 0 ≡ 116 = ap (λ (t : List ℕ). get_or (take 5 t) 0 0) all in
          let two : get_or (take 5 (low text)) 0 0 ≡ 99 = ap (λ (t : List ℕ). get_or t 0 0) e in
          omega (arith, one, two);
    }

-- the class begins with a letter too
class_low : (text : List ℕ) → (is : IsClass1 text) → low text ≡ (codes "class" ++ low is.digits)
class_low text is = ap low is.in_order ∙ lead is.front is.digits (codes "class") is.letters

pub class_no_type : (word : Word) → IsClassIn word → (n : ℕ) → IsTypeWord n word → ⊥
class_no_type word (of_letters is) n type = (type_apart word.bytes.now n type.spelled).not_in (sym is.same)
class_no_type word (of_number unquoted is) n type = (type_apart word.bytes.now n type.spelled).not_class (ap (λ (t : List ℕ). take 5 t) (class_low word.bytes.now is))

class_letter : (word : Word) → IsClassIn word → 96 < first word.bytes.now
class_letter word (of_letters is) = subst (λ (t : List ℕ). 96 < get_or t 0 0) is.same (omega arith)
class_letter word (of_number unquoted is) = subst (λ (t : List ℕ). 96 < get_or t 0 0) (sym (class_low word.bytes.now is)) (omega arith)

-- a time begins with a digit
digit_low : (text : List ℕ) → 0 < length text → digit_value (get_or text 0 0) < 10 → first text ≤ 57
digit_low [] some digit = absurd (omega (arith, some))
digit_low (byte ∷ text) some digit = low_digit byte (digit_from_value byte digit) where
  low_digit : (byte : ℕ) → IsInRange 48 57 byte → to_ascii_lowercase byte ≤ 57
  low_digit byte range = grind (arith, range, nat_tests)

number_first : (text : List ℕ) (n : ℕ) → IsNumber text n → digit_value (get_or text 0 0) < 10
number_first [] n is = absurd (omega (arith, is.digits.0))
number_first (byte ∷ text) n is = is.digits.1.0

front_first : (front back : List ℕ) → 0 < length front → digit_value (get_or front 0 0) < 10 → digit_value (get_or (front ++ back) 0 0) < 10
front_first [] back some digit = absurd (omega (arith, some))
front_first (byte ∷ front) back some digit = digit

units_first : (text : List ℕ) (n : ℕ) → SpellsUnits text n → 0 < length text → digit_value (get_or text 0 0) < 10
units_first text n nothing some = absurd (omega (arith, some))
units_first text n (more {text = []} {digits = digits} {n = m} unit before number is) some = front_first digits (unit ∷ []) number.digits.0 (number_first digits m number)
units_first text n (more {text = byte ∷ front} {digits = digits} {sum = sum} unit before number is) some = front_first (byte ∷ front) (digits ++ unit ∷ []) (omega arith) (units_first (byte ∷ front) sum before (omega arith))

pub time_first : (text : List ℕ) (n : ℕ) → SpellsTime text n → digit_value (get_or text 0 0) < 10
time_first text n (seconds is) = number_first text n is
time_first text n (units some is) = units_first text n is some

time_some : (text : List ℕ) (n : ℕ) → SpellsTime text n → 0 < length text
time_some text n (seconds is) = is.digits.0
time_some text n (units some is) = some

pub ttl_first : (word : Word) (n : ℕ) → IsTtl word n → first word.bytes.now ≤ 57
ttl_first word n is = digit_low word.bytes.now (time_some word.bytes.now n is.spelled) (time_first word.bytes.now n is.spelled)

pub ttl_no_type : (word : Word) (n number : ℕ) → IsTtl word n → IsTypeWord number word → ⊥
ttl_no_type word n number is type = omega (arith, ttl_first word n is, (type_apart word.bytes.now number type.spelled).letter)

pub ttl_no_class : (word : Word) (n : ℕ) → IsTtl word n → IsClassIn word → ⊥
ttl_no_class word n is class = omega (arith, ttl_first word n is, class_letter word class)

-- a word that begins with a digit is neither
pub digit_no_class : (word : Word) → 0 < length word.bytes.now → digit_value (get_or word.bytes.now 0 0) < 10 → IsClassIn word → ⊥
digit_no_class word some digit class = omega (arith, digit_low word.bytes.now some digit, class_letter word class)

pub digit_no_type : (word : Word) (number : ℕ) → 0 < length word.bytes.now → digit_value (get_or word.bytes.now 0 0) < 10 → IsTypeWord number word → ⊥
digit_no_type word number some digit type = omega (arith, digit_low word.bytes.now some digit, (type_apart word.bytes.now number type.spelled).letter)
