-- What is printed for a field stands for its octets, and for no others.
use Rattle.std.proofs.Common.{inl, inr, ◌≡◌, ◌≢◌, ◌∙◌, ℕ, zero, suc, ◌+◌, ◌-◌, ◌^◌, ◌<◌, ◌≤◌, ◌||◌, ◌&&◌, Bool, true, false, nat_le, List, [], ◌∷◌, ◌++◌, length, get_or, take, drop, Option, Some, None, Result, Ok, Err, decimal, sym, ap, subst, refl, arith, append_assoc, append-nil, length-append}
use Rattle.std.specs.Prelude.{IfOk, IfSome, OnOk, map}
use Rattle.std.specs.declared.alloc.AllocError.{AllocError}
use Rattle.std.specs.Char.{to_ascii_lowercase}
use Rattle.std.specs.Int.{IsInRange, w16, w32, to_be_bytes}
use Rattle.std.specs.Str.Parse.{AllDigits, digits_value}
use Rattle.std.proofs.lemmas.Bool.{and_parts}
use Rattle.std.proofs.lemmas.Bool.Decides.{nat_tests}
use Rattle.std.proofs.Math.Seq.{take-add, take-length}
use Rattle.std.proofs.lemmas.List.{length-drop, length-take-le, take_more, take_rest}
use Rattle.std.proofs.lemmas.List.Concat.{flat_map-append}
use Rattle.std.proofs.lemmas.Fmt.{decimal_is_IsNumeral, length-decimal-le}
use Rattle.std.proofs.lemmas.Str.Parse.{digit_from_value}
use Rattle.wire_names.specs.rr.domain.DomainName.{DomainName, name_len}
use Rattle.wire_names.specs.serialize.layout.Bytes.{AreBytes}
use Rattle.wire_names.specs.text.TextForm.{bytes_text, is_plain, is_special}
use Rattle.std.specs.List.{AllByRecursion}
use Rattle.wire_messages.specs.rr.RecordData.{character_string}
use Rattle.wire_messages.specs.serialize.writing.FullForm.{name_octets}
use Rattle.text_words.specs.declared.words.Word.{Word}
use Rattle.text_words.specs.Spelling.{IsNumber, IsString, Spells, SpellsName, any_byte}
use Rattle.text_words.specs.Spelling.SpellsTime.{seconds}
use Rattle.text_words.proofs.SpelledOnce.{bytes_once, names_once, strings_once, times_once}
use Rattle.record_text.specs.declared.data.field.Field.{Field}
use Rattle.record_text.specs.declared.data.field.Field.TheVariants as field
use Rattle.record_text.specs.declared.data.field.Names.{Names}
use Rattle.record_text.specs.declared.data.field.Names.TheVariants as names
use Rattle.record_text.specs.Mnemonics.{NamedNumber, mnemonics}
use Rattle.record_text.specs.Moments.{SpellsMoment}
use Rattle.record_text.specs.Moments.SpellsMoment.{date as moment_date, seconds as moment_seconds}
use Rattle.record_text.specs.RecordText.{IsField, IsNamed}
use Rattle.record_text.specs.RecordText.IsField.{number8, number16, number32, named8, unnamed8, named16, unnamed16, time, name, string, moment, text as text_is, in_digits}
use Rattle.text_print.specs.Printed.{IsPlain, Printed, line_of, text_of}
use Rattle.text_print.specs.Printed.Printed.{plain, quoted}
use Rattle.text_print.specs.PrintedData.{ArePrintedFields, IsFormWord, IsPrintedField, IsWordByte, PutsField, PutsNumber, PutsWords}
use Rattle.text_print.specs.PrintedData.ArePrintedFields.{none, more}
use Rattle.text_print.proofs.Spelled.{AllSimple, AreByteLabels, IsSimple, name_plain, name_spelled, name_text, name_unmarked, number_is, number_simple, simple_plain, spells_bytes, take_bytes, text_plain, whole_bytes}

-- a word in no quotes that is no mark
pub plain_word : (text : List ℕ) → IsPlain text × (text ≢ 92 ∷ 35 ∷ []) → IsFormWord (plain text)
plain_word text h = record { sound = h.0; unmarked = λ e. h.1 (bytes_same e) } where
  bytes_of_word : Printed → List ℕ
  bytes_of_word (plain bytes) = bytes
  bytes_of_word (quoted bytes) = bytes

  bytes_same : plain text ≡ plain (92 ∷ 35 ∷ []) → text ≡ 92 ∷ 35 ∷ []
  bytes_same e = ap bytes_of_word e

number_word : (k : ℕ) → k < 2 ^ 32 → IsFormWord (plain (decimal k))
number_word k small = let is = number_simple k (omega (arith, small)) in plain_word (decimal k) (simple_plain (decimal k) is.0 is.1)

quoted_word : (bytes : List ℕ) → AreBytes bytes → IsFormWord (quoted (bytes_text true bytes))
quoted_word bytes h = record { sound = whole_bytes true bytes h; unmarked = λ e. absurd (cc) }

same_number : (text : List ℕ) (k n : ℕ) → text ≡ decimal k → k < 2 ^ 32 → IsNumber text n → n ≡ k
same_number text k n e small is = sym is.value ∙ ap (λ (t : List ℕ). digits_value 10 t) e ∙ (decimal_is_IsNumeral k (omega (arith, small))).1

number_here : (text : List ℕ) (k : ℕ) → text ≡ decimal k → k < 2 ^ 32 → IsNumber text k
number_here text k e small = subst (λ (t : List ℕ). IsNumber t k) (sym e) (number_is k (omega (arith, small)))

-- a mnemonic has a letter, and the digits of a number have none
abbrev has_letter : List ℕ → Bool
has_letter [] = false
has_letter (c ∷ cs) = nat_le 58 (to_ascii_lowercase c) || has_letter cs

abbrev all_lettered : List NamedNumber → Bool
all_lettered [] = true
all_lettered (m ∷ ms) = has_letter m.letters && all_lettered ms

lettered : (kind : Names) → all_lettered (mnemonics kind) ≡ true
lettered names.Algorithms = refl
lettered names.Certificates = refl
lettered names.Digests = refl
lettered names.Protocols = refl
lettered names.Services = refl
lettered names.Schemes = refl

lettered_at : (some : List NamedNumber) → all_lettered some ≡ true → (k : ℕ) (m : NamedNumber) → k < length some → get_or some k m ≡ m → has_letter m.letters ≡ true
lettered_at [] all k m below at = absurd (omega arith)
lettered_at (first ∷ others) all zero m below at = subst (λ (r : NamedNumber). has_letter r.letters ≡ true) at (and_parts (has_letter first.letters) (all_lettered others) all).0
lettered_at (first ∷ others) all (suc k) m below at = lettered_at others (and_parts (has_letter first.letters) (all_lettered others) all).1 k m (omega arith) at

-- the same letters, case aside, have the same
letter_low : (a b : List ℕ) → map to_ascii_lowercase a ≡ map to_ascii_lowercase b → has_letter a ≡ has_letter b
letter_low [] [] e = refl
letter_low [] (y ∷ b) e = absurd (cc)
letter_low (x ∷ a) [] e = absurd (cc)
letter_low (x ∷ a) (y ∷ b) e =
    let head : to_ascii_lowercase x ≡ to_ascii_lowercase y = cc in
    let tail : map to_ascii_lowercase a ≡ map to_ascii_lowercase b = cc in
    ap (λ (c : ℕ). nat_le 58 c || has_letter a) head ∙ ap (λ (s : Bool). nat_le 58 (to_ascii_lowercase y) || s) (letter_low a b tail)

digit_low : (d : ℕ) → IsInRange 48 57 d → nat_le 58 (to_ascii_lowercase d) ≡ false
digit_low d h = grind (arith, nat_tests)

no_letter : (ds : List ℕ) → AllDigits 10 ds → has_letter ds ≡ false
no_letter [] h = refl
no_letter (d ∷ ds) h =
    let range : IsInRange 48 57 d = digit_from_value d h.0 in
    ap (λ (s : Bool). s || has_letter ds) (digit_low d range) ∙ no_letter ds h.1

no_mnemonic : (kind : Names) (text : List ℕ) (k n : ℕ) → text ≡ decimal k → k < 2 ^ 32 → IsNamed kind text n → ⊥
no_mnemonic kind text k n e small (j, m, below, at, named) =
    let yes : has_letter m.letters ≡ true = lettered_at (mnemonics kind) (lettered kind) j m below at in
    let none : has_letter (decimal k) ≡ false = no_letter (decimal k) (decimal_is_IsNumeral k (omega (arith, small))).0.1 in
    let same : has_letter m.letters ≡ has_letter text = letter_low m.letters text named.1 in
    let clash : true ≡ false = sym yes ∙ same ∙ ap has_letter e ∙ none in
    cc

module _ (origin : Option DomainName) (w : Word) (k : ℕ) (e : w.bytes.now ≡ decimal k) (small : k < 2 ^ 32) where
  only_number8 : (others : List ℕ) → IsField origin field.Number8 w others → others ≡ k ∷ []
  only_number8 others (number8 {n = n} p i s) = ap (λ (m : ℕ). m ∷ []) (same_number w.bytes.now k n e small i)
  only_number8 others (in_digits p i) = elim i [ ]

  only_number16 : (others : List ℕ) → IsField origin field.Number16 w others → others ≡ to_be_bytes w16 k
  only_number16 others (number16 {n = n} p i s) = ap (λ (m : ℕ). to_be_bytes w16 m) (same_number w.bytes.now k n e small i)
  only_number16 others (in_digits p i) = elim i [ ]

  only_number32 : (others : List ℕ) → IsField origin field.Number32 w others → others ≡ to_be_bytes w32 k
  only_number32 others (number32 {n = n} p i s) = ap (λ (m : ℕ). to_be_bytes w32 m) (same_number w.bytes.now k n e small i)
  only_number32 others (in_digits p i) = elim i [ ]

  only_named8 : (kind : Names) (others : List ℕ) → IsField origin (field.Named8 kind) w others → others ≡ k ∷ []
  only_named8 kind others (named8 {n = n} p i) = absurd (no_mnemonic kind w.bytes.now k n e small i)
  only_named8 kind others (unnamed8 {n = n} p i s) = ap (λ (m : ℕ). m ∷ []) (same_number w.bytes.now k n e small i)
  only_named8 kind others (in_digits p i) = elim i [ ]

  only_named16 : (kind : Names) (others : List ℕ) → IsField origin (field.Named16 kind) w others → others ≡ to_be_bytes w16 k
  only_named16 kind others (named16 {n = n} p i) = absurd (no_mnemonic kind w.bytes.now k n e small i)
  only_named16 kind others (unnamed16 {n = n} p i s) = ap (λ (m : ℕ). to_be_bytes w16 m) (same_number w.bytes.now k n e small i)
  only_named16 kind others (in_digits p i) = elim i [ ]

  only_time : (others : List ℕ) → IsField origin field.Time w others → others ≡ to_be_bytes w32 k
  only_time others (time {n = n} p i s) = ap (λ (m : ℕ). to_be_bytes w32 m) (times_once w.bytes.now n k i (seconds (number_here w.bytes.now k e small)))
  only_time others (in_digits p i) = elim i [ ]

module _ (k : ℕ) where
  number8_field : k < 2 ^ 8 → IsPrintedField field.Number8 (plain (decimal k)) (k ∷ [])
  number8_field small = record { is = λ origin w p. number8 p.0 (number_here w.bytes.now k p.1 (omega (arith, small))) small; only = λ origin w others p f. only_number8 origin w k p.1 (omega (arith, small)) others f }

  named8_field : (kind : Names) → k < 2 ^ 8 → IsPrintedField (field.Named8 kind) (plain (decimal k)) (k ∷ [])
  named8_field kind small = record { is = λ origin w p. unnamed8 p.0 (number_here w.bytes.now k p.1 (omega (arith, small))) small; only = λ origin w others p f. only_named8 origin w k p.1 (omega (arith, small)) kind others f }

  number16_field : k < 2 ^ 16 → IsPrintedField field.Number16 (plain (decimal k)) (to_be_bytes w16 k)
  number16_field small = record { is = λ origin w p. number16 p.0 (number_here w.bytes.now k p.1 (omega (arith, small))) small; only = λ origin w others p f. only_number16 origin w k p.1 (omega (arith, small)) others f }

  named16_field : (kind : Names) → k < 2 ^ 16 → IsPrintedField (field.Named16 kind) (plain (decimal k)) (to_be_bytes w16 k)
  named16_field kind small = record { is = λ origin w p. unnamed16 p.0 (number_here w.bytes.now k p.1 (omega (arith, small))) small; only = λ origin w others p f. only_named16 origin w k p.1 (omega (arith, small)) kind others f }

  number32_field : k < 2 ^ 32 → IsPrintedField field.Number32 (plain (decimal k)) (to_be_bytes w32 k)
  number32_field small = record { is = λ origin w p. number32 p.0 (number_here w.bytes.now k p.1 small) small; only = λ origin w others p f. only_number32 origin w k p.1 small others f }

  time_field : k < 2 ^ 32 → IsPrintedField field.Time (plain (decimal k)) (to_be_bytes w32 k)
  time_field small = record { is = λ origin w p. time p.0 (seconds (number_here w.bytes.now k p.1 small)) small; only = λ origin w others p f. only_time origin w k p.1 small others f }

-- a name
name_here : (origin : Option DomainName) (text : List ℕ) (labels : List (List ℕ)) → AreByteLabels labels → text ≡ name_text labels → SpellsName origin text labels
name_here origin text labels h e = subst (λ (t : List ℕ). SpellsName origin t labels) (sym e) (name_spelled origin labels h)

only_name : (origin : Option DomainName) (w : Word) (others : List ℕ) (labels : List (List ℕ)) → AreByteLabels labels → w.bytes.now ≡ name_text labels → IsField origin field.Name w others → others ≡ name_octets labels
only_name origin w others labels h e (name {labels = ms} p i s) = ap (λ (l : List (List ℕ)). name_octets l) (names_once origin w.bytes.now ms labels i (name_here origin w.bytes.now labels h e))
only_name origin w others labels h e (in_digits p i) = elim i [ ]

pub put_name : (labels : List (List ℕ)) (octets before after : List ℕ) → AreByteLabels labels → name_len labels ≤ 255 → octets ≡ name_octets labels → after ≡ before ++ 32 ∷ name_text labels → PutsField field.Name octets before after
put_name labels octets before after h short is put = (
  plain (name_text labels),
  put,
  plain_word (name_text labels) (name_plain labels h, name_unmarked labels),
  subst (λ (o : List ℕ). IsPrintedField field.Name (plain (name_text labels)) o) (sym is) (record {
    is = λ origin w p. name p.0 (name_here origin w.bytes.now labels h p.1) short;
    only = λ origin w others p f. only_name origin w others labels h p.1 f;
  }),
)

-- character strings, and the text that is left
bytes_here : (text bytes : List ℕ) → AreBytes bytes → text ≡ bytes_text true bytes → Spells any_byte text bytes
bytes_here text bytes h e = subst (λ (t : List ℕ). Spells any_byte t bytes) (sym e) (spells_bytes true bytes h)

pub string_here : (w : Word) (bytes : List ℕ) → AreBytes bytes → length bytes < 256 → w.bytes.now ≡ bytes_text true bytes → IsString w (character_string bytes)
string_here w bytes h short e = record { bytes = bytes; spelled = bytes_here w.bytes.now bytes h e; short = short; counted = refl }

only_string : (origin : Option DomainName) (w : Word) (others bytes : List ℕ) → AreBytes bytes → length bytes < 256 → w.bytes.now ≡ bytes_text true bytes → IsField origin field.String w others → others ≡ character_string bytes
only_string origin w others bytes h short e (string i) = strings_once w others (character_string bytes) i (string_here w bytes h short e)
only_string origin w others bytes h short e (in_digits p i) = elim i [ ]

pub put_string : (bytes octets before after : List ℕ) → AreBytes bytes → length bytes < 256 → octets ≡ character_string bytes → after ≡ before ++ 32 ∷ 34 ∷ (bytes_text true bytes ++ 34 ∷ []) → PutsField field.String octets before after
put_string bytes octets before after h short is put = (
  quoted (bytes_text true bytes),
  put,
  quoted_word bytes h,
  subst (λ (o : List ℕ). IsPrintedField field.String (quoted (bytes_text true bytes)) o) (sym is) (record {
    is = λ origin w p. string (string_here w bytes h short p.1);
    only = λ origin w others p f. only_string origin w others bytes h short p.1 f;
  }),
)

only_text : (origin : Option DomainName) (w : Word) (others bytes : List ℕ) → AreBytes bytes → w.bytes.now ≡ bytes_text true bytes → IsField origin field.Text w others → others ≡ bytes
only_text origin w others bytes h e (text_is i) = bytes_once w.bytes.now others bytes i (bytes_here w.bytes.now bytes h e)
only_text origin w others bytes h e (in_digits p i) = elim i [ ]

pub put_text : (bytes octets before after : List ℕ) → AreBytes bytes → octets ≡ bytes → after ≡ before ++ 32 ∷ 34 ∷ (bytes_text true bytes ++ 34 ∷ []) → PutsField field.Text octets before after
put_text bytes octets before after h is put = (
  quoted (bytes_text true bytes),
  put,
  quoted_word bytes h,
  subst (λ (o : List ℕ). IsPrintedField field.Text (quoted (bytes_text true bytes)) o) (sym is) (record {
    is = λ origin w p. text_is (bytes_here w.bytes.now bytes h p.1);
    only = λ origin w others p f. only_text origin w others bytes h p.1 f;
  }),
)

-- a printed number, as each field of its size
put_as : (octets before after : List ℕ) (len : ℕ) (form : ℕ → List ℕ) (limit : ℕ) (kind : Field) → limit ≤ 2 ^ 32 → ((k : ℕ) → k < limit → IsPrintedField kind (plain (decimal k)) (form k))
    → PutsNumber form limit octets before after len → (len ≤ length octets) × PutsField kind (take len octets) before after
put_as octets before after len form limit kind few one h = (
  h.within,
  (plain (decimal h.number), h.put, number_word h.number (omega (arith, h.small, few)), subst (λ (o : List ℕ). IsPrintedField kind (plain (decimal h.number)) o) (sym h.is) (one h.number h.small)),
)

pub map_ok : {T E P Q : Type 0} (r : Result T E) → (P → Q) → OnOk r P → OnOk r Q
map_ok (Ok t) f h = f h
map_ok (Err e) f h = h

map_put : {P Q : ℕ → Type 0} (r : Result (Option ℕ) AllocError) → ((n : ℕ) → P n → Q n) → IfOk r (λ len. IfSome len P) → IfOk r (λ len. IfSome len Q)
map_put (Ok (Some n)) f h = f n h
map_put (Ok None) f h = h
map_put (Err e) f h = h

-- what is put of a field of a kind
abbrev pub Puts : Field → List ℕ → List ℕ → List ℕ → Result (Option ℕ) AllocError → Type 0
Puts kind octets before after r = IfOk r (λ (len : Option ℕ). IfSome len (λ (n : ℕ). (n ≤ length octets) × PutsField kind (take n octets) before after))

module _ (octets before after : List ℕ) (r : Result (Option ℕ) AllocError) where
  pub as_number8 : IfOk r (λ len. IfSome len (PutsNumber (λ n. n ∷ []) (2 ^ 8) octets before after)) → Puts field.Number8 octets before after r
  as_number8 h = map_put r (λ n. put_as octets before after n (λ k. k ∷ []) (2 ^ 8) field.Number8 (omega arith) number8_field) h

  pub as_named8 : (kind : Names) → IfOk r (λ len. IfSome len (PutsNumber (λ n. n ∷ []) (2 ^ 8) octets before after)) → Puts (field.Named8 kind) octets before after r
  as_named8 kind h = map_put r (λ n. put_as octets before after n (λ k. k ∷ []) (2 ^ 8) (field.Named8 kind) (omega arith) (λ k. named8_field k kind)) h

  pub as_number16 : IfOk r (λ len. IfSome len (PutsNumber (to_be_bytes w16) (2 ^ 16) octets before after)) → Puts field.Number16 octets before after r
  as_number16 h = map_put r (λ n. put_as octets before after n (to_be_bytes w16) (2 ^ 16) field.Number16 (omega arith) number16_field) h

  pub as_named16 : (kind : Names) → IfOk r (λ len. IfSome len (PutsNumber (to_be_bytes w16) (2 ^ 16) octets before after)) → Puts (field.Named16 kind) octets before after r
  as_named16 kind h = map_put r (λ n. put_as octets before after n (to_be_bytes w16) (2 ^ 16) (field.Named16 kind) (omega arith) (λ k. named16_field k kind)) h

  pub as_number32 : IfOk r (λ len. IfSome len (PutsNumber (to_be_bytes w32) (2 ^ 32) octets before after)) → Puts field.Number32 octets before after r
  as_number32 h = map_put r (λ n. put_as octets before after n (to_be_bytes w32) (2 ^ 32) field.Number32 (omega arith) number32_field) h

  pub as_time : IfOk r (λ len. IfSome len (PutsNumber (to_be_bytes w32) (2 ^ 32) octets before after)) → Puts field.Time octets before after r
  as_time h = map_put r (λ n. put_as octets before after n (to_be_bytes w32) (2 ^ 32) field.Time (omega arith) time_field) h

-- a string, its length before it, at the front of octets
pub string_front : (all piece before after : List ℕ) (len : ℕ) → AreBytes all → 1 ≤ length all → len ≡ get_or all 0 0 → len ≤ length (take (length all - 1) (drop 1 all)) → piece ≡ take len (take (length all - 1) (drop 1 all))
    → after ≡ before ++ 32 ∷ 34 ∷ (bytes_text true piece ++ 34 ∷ []) → (1 + len ≤ length all) × PutsField field.String (take (1 + len) all) before after
string_front [] piece before after len bytes some told fits same put = absurd (omega (arith, some))
string_front (b ∷ rest) piece before after len bytes some told fits same put =
    let count : length (b ∷ rest) - 1 ≡ length rest = omega arith in
    let left : take (length (b ∷ rest) - 1) rest ≡ rest = ap (λ (n : ℕ). take n rest) count ∙ take-length rest in
    let within : len ≤ length rest = omega (arith, fits, ap (λ (t : List ℕ). length t) left) in
    let is : piece ≡ take len rest = same ∙ ap (λ (t : List ℕ). take len t) left in
    let long : length piece ≡ len = ap (λ (t : List ℕ). length t) is ∙ length-take-le len rest within in
    let small : b < 256 = bytes 0 in
    let own : AreBytes piece = subst (λ (t : List ℕ). AreBytes t) (sym is) (take_bytes len rest (λ k. bytes (suc k))) in
    let next : 1 + len ≡ suc len = omega arith in
    let front : take (1 + len) (b ∷ rest) ≡ character_string piece = ap (λ (n : ℕ). take n (b ∷ rest)) next ∙ ap (λ (t : List ℕ). b ∷ t) (sym is) ∙ ap (λ (n : ℕ). n ∷ piece) (sym told ∙ sym long) in
    (omega (arith, within), put_string piece (take (1 + len) (b ∷ rest)) before after own (omega (arith, long, told, small)) front put)

pub if_some : (P : ℕ → Type 0) (o : Option ℕ) (n : ℕ) → o ≡ Some n → IfSome o P → P n
if_some P (Some m) n e h = let same : m ≡ n = cc in subst P same h
if_some P None n e h = absurd (cc)

-- fields so far, and one more
pub fields_step : (fields : List Field) (i : ℕ) (d : Field) (all : List ℕ) (place len : ℕ) (before middle after : List ℕ) → i < length fields → place ≤ length all
    → PutsWords (λ printed. ArePrintedFields (take i fields) printed (take place all)) before middle
    → (len ≤ length (take (length all - place) (drop place all))) × PutsField (get_or fields i d) (take len (take (length all - place) (drop place all))) middle after
    → (place + len ≤ length all) × PutsWords (λ printed. ArePrintedFields (take (i + 1) fields) printed (take (place + len) all)) before after
fields_step fields i d all place len before middle after below within (printed, put, are) (fits, (p, one, good, is)) =
    let rest : take (length all - place) (drop place all) ≡ drop place all = take_rest all place in
    let own : IsPrintedField (get_or fields i d) p (take len (drop place all)) = subst (λ (t : List ℕ). IsPrintedField (get_or fields i d) p (take len t)) rest is in
    let line : line_of (printed ++ p ∷ []) ≡ line_of printed ++ text_of p = flat_map-append text_of printed (p ∷ []) ∙ ap (λ (t : List ℕ). line_of printed ++ t) (append-nil (text_of p)) in
    let all_fields : ArePrintedFields (take i fields ++ get_or fields i d ∷ []) (printed ++ p ∷ []) (take place all ++ take len (drop place all)) = more are good own in (
      omega (arith, fits, ap (λ (t : List ℕ). length t) rest, length-drop place all, within),
      (
        printed ++ p ∷ [],
        one ∙ ap (λ (t : List ℕ). t ++ text_of p) put ∙ append_assoc before (line_of printed) (text_of p) ∙ ap (λ (t : List ℕ). before ++ t) (sym line),
        subst (λ (o : List ℕ). ArePrintedFields (take (i + 1) fields) (printed ++ p ∷ []) o) (sym (take-add place len all)) (subst (λ (fs : List Field). ArePrintedFields fs (printed ++ p ∷ []) (take place all ++ take len (drop place all))) (sym (take_more fields i d below)) all_fields),
      ),
    )

pub fields_init : (before after : List ℕ) → after ≡ before → PutsWords (λ printed. ArePrintedFields [] printed []) before after
fields_init before after e = ([], e ∙ sym (append-nil before), none)

-- a moment is printed as its seconds, which have ten digits at most
few_digits : (k : ℕ) → k < 2 ^ 32 → length (decimal k) ≢ 14
few_digits k small e = let short = length-decimal-le 10 k (omega (arith, small)) in omega (arith, e, short)

moment_here : (written : List ℕ) (k : ℕ) → written ≡ decimal k → k < 2 ^ 32 → SpellsMoment written k
moment_here written k e small = moment_seconds (λ long. few_digits k small (sym (ap (λ (t : List ℕ). length t) e) ∙ long)) (number_here written k e small) small

same_moment : (written : List ℕ) (k n : ℕ) → written ≡ decimal k → k < 2 ^ 32 → SpellsMoment written n → n ≡ k
same_moment written k n e small (moment_date {date = d} good is) =
    let long : length written ≡ 14 = omega (
      arith,
      ap length is.in_order,
      is.four,
      is.two.0,
      is.two.1,
      is.two.2,
      is.two.3,
      is.two.4,
      length-append (is.year ++ is.month ++ is.day ++ is.hour ++ is.minute) is.second,
      length-append (is.year ++ is.month ++ is.day ++ is.hour) is.minute,
      length-append (is.year ++ is.month ++ is.day) is.hour,
      length-append (is.year ++ is.month) is.day,
      length-append is.year is.month,
    ) in
    absurd (few_digits k small (sym (ap (λ (t : List ℕ). length t) e) ∙ long))
same_moment written k n e small (moment_seconds other is few) = same_number written k n e small is

only_moment : (origin : Option DomainName) (w : Word) (others : List ℕ) (k : ℕ) → w.bytes.now ≡ decimal k → k < 2 ^ 32 → IsField origin field.Moment w others → others ≡ to_be_bytes w32 k
only_moment origin w others k e small (moment {n = n} p i) = ap (λ (m : ℕ). to_be_bytes w32 m) (same_moment w.bytes.now k n e small i)
only_moment origin w others k e small (in_digits p i) = elim i [ ]

moment_field : (k : ℕ) → k < 2 ^ 32 → IsPrintedField field.Moment (plain (decimal k)) (to_be_bytes w32 k)
moment_field k small = record { is = λ origin w p. moment p.0 (moment_here w.bytes.now k p.1 small); only = λ origin w others p f. only_moment origin w others k p.1 small f }

pub as_moment : (octets before after : List ℕ) (r : Result (Option ℕ) AllocError) → IfOk r (λ len. IfSome len (PutsNumber (to_be_bytes w32) (2 ^ 32) octets before after)) → Puts field.Moment octets before after r
as_moment octets before after r h = map_put r (λ n. put_as octets before after n (to_be_bytes w32) (2 ^ 32) field.Moment (omega arith) moment_field) h

-- letters and digits stand for themselves
word_byte : (b : ℕ) → IsWordByte b → (is_special true b ≡ false) × (is_plain true b ≡ true) × IsSimple b
word_byte b (inl h) = (grind (arith, nat_tests), grind (arith, nat_tests), ((λ e. omega (arith, e, h.1)), (λ e. omega (arith, e, h.0)), grind (arith, nat_tests)))
word_byte b (inr (inl h)) = (grind (arith, nat_tests), grind (arith, nat_tests), ((λ e. omega (arith, e, h.1)), (λ e. omega (arith, e, h.0)), grind (arith, nat_tests)))
word_byte b (inr (inr h)) = (grind (arith, nat_tests), grind (arith, nat_tests), ((λ e. omega (arith, e, h.0)), (λ e. omega (arith, e, h.0)), grind (arith, nat_tests)))

word_bytes : (bytes : List ℕ) → AllByRecursion IsWordByte bytes → (bytes_text true bytes ≡ bytes) × AllSimple bytes
word_bytes [] h = (refl, tt)
word_bytes (b ∷ bytes) h =
    let one = word_byte b h.0 in
    let rest = word_bytes bytes h.1 in
    (ap (λ (t : List ℕ). t ++ bytes_text true bytes) (text_plain true b one.0 one.1) ∙ ap (λ (t : List ℕ). b ∷ t) rest.0, (one.2, rest.1))

put_bare_string : (bytes octets before after : List ℕ) → AreBytes bytes → length bytes < 256 → 0 < length bytes → AllByRecursion IsWordByte bytes → octets ≡ character_string bytes → after ≡ before ++ 32 ∷ bytes_text true bytes → PutsField field.String octets before after
put_bare_string bytes octets before after h short some each is put =
    let word = word_bytes bytes each in
    let simple : AllSimple (bytes_text true bytes) = subst AllSimple (sym word.0) word.1 in (
      plain (bytes_text true bytes),
      put,
      plain_word (bytes_text true bytes) (simple_plain (bytes_text true bytes) simple (subst (λ (t : List ℕ). 0 < length t) (sym word.0) some)),
      subst (λ (o : List ℕ). IsPrintedField field.String (plain (bytes_text true bytes)) o) (sym is) (record {
        is = λ origin w p. string (string_here w bytes h short p.1);
        only = λ origin w others p f. only_string origin w others bytes h short p.1 f;
      }),
    )

pub bare_front : (all piece before after : List ℕ) (len : ℕ) → AreBytes all → 1 ≤ length all → len ≡ get_or all 0 0 → len ≤ length (take (length all - 1) (drop 1 all)) → piece ≡ take len (take (length all - 1) (drop 1 all))
    → 0 < length piece → AllByRecursion IsWordByte piece → after ≡ before ++ 32 ∷ bytes_text true piece → (1 + len ≤ length all) × PutsField field.String (take (1 + len) all) before after
bare_front [] piece before after len bytes some told fits same full each put = absurd (omega (arith, some))
bare_front (b ∷ rest) piece before after len bytes some told fits same full each put =
    let count : length (b ∷ rest) - 1 ≡ length rest = omega arith in
    let left : take (length (b ∷ rest) - 1) rest ≡ rest = ap (λ (n : ℕ). take n rest) count ∙ take-length rest in
    let within : len ≤ length rest = omega (arith, fits, ap (λ (t : List ℕ). length t) left) in
    let is : piece ≡ take len rest = same ∙ ap (λ (t : List ℕ). take len t) left in
    let long : length piece ≡ len = ap (λ (t : List ℕ). length t) is ∙ length-take-le len rest within in
    let small : b < 256 = bytes 0 in
    let own : AreBytes piece = subst (λ (t : List ℕ). AreBytes t) (sym is) (take_bytes len rest (λ k. bytes (suc k))) in
    let next : 1 + len ≡ suc len = omega arith in
    let front : take (1 + len) (b ∷ rest) ≡ character_string piece = ap (λ (n : ℕ). take n (b ∷ rest)) next ∙ ap (λ (t : List ℕ). b ∷ t) (sym is) ∙ ap (λ (n : ℕ). n ∷ piece) (sym told ∙ sym long) in
    (omega (arith, within), put_bare_string piece (take (1 + len) (b ∷ rest)) before after own (omega (arith, long, told, small)) full each front put)
