-- A text is the mnemonic of one type at most, or TYPE and one number.
use Rattle.std.proofs.Common.{◌≡◌, ◌∙◌, ◌<◌, ℕ, zero, suc, Bool, true, false, List, [], ◌∷◌, length, take, drop, get_or, sym, ap, subst, refl, arith}
use Rattle.std.proofs.lemmas.Bool.{and_parts, eqb-true}
use Rattle.std.proofs.lemmas.List.{drop_at, length-map, map-append, take_at}
use Rattle.std.proofs.lemmas.Slice.Eq.{bytes_eq-Decides}
use Rattle.std.specs.Char.{to_ascii_lowercase}
use Rattle.std.specs.Prelude.{◌==◌, ◌&&◌, if◌then◌else◌, bytes_eq, codes, map, not}
use Rattle.record_text.specs.RecordText.{IsTypeNumber, SameLetters, SpellsMnemonic}
use Rattle.record_text.specs.RecordText.SpellsType.{mnemonic, numbered}
use Rattle.record_text.specs.TypeTable.{TypeRow, rows}
use Rattle.record_text.proofs.OneLength.{TypesOnce}
use Rattle.text_words.specs.Spelling.{IsNumber}

abbrev pub low : List ℕ → List ℕ
low text = map to_ascii_lowercase text

-- the number of the first row with these letters, or one that no type has
abbrev number_in : List TypeRow → List ℕ → ℕ
number_in [] letters = 65536
number_in (row ∷ others) letters = if bytes_eq (low row.mnemonic) letters then row.number else number_in others letters

-- a row is found by its letters, and they do not begin as TYPE and a number do
abbrev is_found : TypeRow → Bool
is_found row = (number_in rows (low row.mnemonic) == row.number) && not (bytes_eq (take 4 (low row.mnemonic)) (codes "type"))

abbrev all_found : List TypeRow → Bool
all_found [] = true
all_found (row ∷ others) = is_found row && all_found others

found_at : (some : List TypeRow) → all_found some ≡ true → (k : ℕ) (row : TypeRow) → k < length some → get_or some k row ≡ row → is_found row ≡ true
found_at [] all k row below at = absurd (omega arith)
found_at (first ∷ others) all zero row below at = subst (λ (r : TypeRow). is_found r ≡ true) at (and_parts (is_found first) (all_found others) all).0
found_at (first ∷ others) all (suc k) row below at = found_at others (and_parts (is_found first) (all_found others) all).1 k row (omega arith) at

rows_found : all_found rows ≡ true
rows_found = refl

-- a mnemonic in any letter case leads to its number
by_letters : (text : List ℕ) (n : ℕ) → SpellsMnemonic text n → number_in rows (low text) ≡ n
by_letters text n (k, row, below, at, named) =
    let found : is_found row ≡ true = found_at rows rows_found k row below at in
    ap (λ (t : List ℕ). number_in rows t) (sym named.1) ∙ eqb-true (number_in rows (low row.mnemonic)) row.number (and_parts (number_in rows (low row.mnemonic) == row.number) (not (bytes_eq (take 4 (low row.mnemonic)) (codes "type"))) found).0 ∙ named.0

not_true : (b : Bool) → not b ≡ true → b ≡ true → ⊥
not_true true e f = cc
not_true false e f = cc

pub four : (front : List ℕ) → SameLetters (codes "TYPE") front → length front ≡ 4
four front e = sym (length-map front to_ascii_lowercase) ∙ sym (ap length e)

-- no mnemonic begins so
apart : (text : List ℕ) (n m : ℕ) → SpellsMnemonic text n → IsTypeNumber text m → ⊥
apart text n m (k, row, below, at, named) is =
    let found : is_found row ≡ true = found_at rows rows_found k row below at in
    let begins : take 4 (low row.mnemonic) ≡ codes "type" =
    ap (λ (t : List ℕ). take 4 t) (named.1 ∙ ap low is.in_order ∙ map-append to_ascii_lowercase is.front is.digits)
    ∙ take_at (low is.front) (low is.digits) 4 (length-map is.front to_ascii_lowercase ∙ four is.front is.letters) ∙ sym is.letters in
    not_true (bytes_eq (take 4 (low row.mnemonic)) (codes "type")) (and_parts (number_in rows (low row.mnemonic) == row.number) (not (bytes_eq (take 4 (low row.mnemonic)) (codes "type"))) found).1
    ((bytes_eq-Decides (take 4 (low row.mnemonic)) (codes "type")).1 begins)

pub type_numbers_once : (text : List ℕ) (n m : ℕ) → IsTypeNumber text n → IsTypeNumber text m → n ≡ m
type_numbers_once text n m one two =
    let digits : one.digits ≡ two.digits = sym (drop_at one.front one.digits 4 (four one.front one.letters)) ∙ ap (λ (t : List ℕ). drop 4 t) (sym one.in_order ∙ two.in_order) ∙ drop_at two.front two.digits 4 (four two.front two.letters) in
    let same : IsNumber two.digits n = subst (λ (t : List ℕ). IsNumber t n) digits one.spelled in
    sym same.value ∙ two.spelled.value

pub types_once : TypesOnce
types_once text n m (mnemonic a) (mnemonic b) = sym (by_letters text n a) ∙ by_letters text m b
types_once text n m (mnemonic a) (numbered b) = absurd (apart text n m a b)
types_once text n m (numbered a) (mnemonic b) = absurd (apart text m n b a)
types_once text n m (numbered a) (numbered b) = type_numbers_once text n m a b
