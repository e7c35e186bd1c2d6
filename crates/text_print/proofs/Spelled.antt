-- What printed bytes spell: character strings, labels and names (RFC 1035 sections 3.3 and 5.1).
use Rattle.std.proofs.Common.{Fits, w8, ◌≡◌, ◌≢◌, ◌∙◌, ℕ, zero, suc, ◌+◌, ◌/◌, ◌%◌, ◌^◌, ◌<◌, ◌≤◌, ◌⊎◌, inl, inr, Bool, true, false, if◌then◌else◌, List, [], ◌∷◌, ◌++◌, length, get_or, take, drop, All, Option, decimal, sym, ap, subst, refl, arith, append_assoc, append-nil, length-append}
use Rattle.std.specs.Prelude.{IsTrue}
use Rattle.std.specs.List.{flat_map}
use Rattle.std.specs.Int.{IsInRange}
use Rattle.std.specs.Str.Parse.{AllDigits, IsNumeral}
use Rattle.std.proofs.lemmas.Bool.Decides.{nat_tests}
use Rattle.std.proofs.lemmas.Fmt.{decimal_is_IsNumeral}
use Rattle.std.proofs.lemmas.List.{same_from_push}
use Rattle.std.proofs.lemmas.List.Elements.{All-head, All-tail}
use Rattle.std.proofs.lemmas.Str.Parse.{digit_from_value}
use Rattle.wire_names.specs.rr.domain.DomainName.{DomainName, IsLabel}
use Rattle.wire_names.specs.serialize.layout.Bytes.{AreBytes}
use Rattle.wire_names.specs.text.TextForm.{byte_text, bytes_text, decimal_escape, is_plain, is_special}
use Rattle.text_words.specs.declared.words.TextKind.TheVariants.{ZoneFile}
use Rattle.text_words.specs.Words.{ends_quoted, ends_word}
use Rattle.text_words.specs.Spelling.{IsNumber, Spells, SpellsByte, SpellsLabel, SpellsLabels, SpellsName, any_byte, bare_in_label}
use Rattle.text_words.specs.Spelling.AreLabelsWithDot.{dot_last}
use Rattle.text_words.specs.Spelling.AreNameLabels.{root, labels as of_labels}
use Rattle.text_words.specs.Spelling.SpellsName.{absolute}
use Rattle.text_words.specs.Spelling.SpellsByte.{bare as byte_bare, numbered, escaped as byte_escaped}
use Rattle.text_words.specs.Spelling.Spells.{nothing as no_bytes, more as one_byte}
use Rattle.text_words.specs.Spelling.SpellsLabels.{nothing as no_labels, more as one_label}
use Rattle.text_print.specs.Printed.{IsPlain, IsWhole}
use Rattle.text_print.specs.Printed.IsWhole.{nothing, bare, escaped}

-- three decimal digits are the number of a byte
three_digits : (b : ℕ) → b < 256 → IsNumber ((48 + b / 100) ∷ (48 + b / 10 % 10) ∷ (48 + b % 10) ∷ []) b
three_digits b small = record { digits = grind (arith, nat_tests); value = grind (arith, nat_tests) }

-- a byte that is special is no digit
special_no_digit : (q : Bool) (b : ℕ) → is_special q b ≡ true → IsNumeral 10 (b ∷ []) → ⊥
special_no_digit q b special digit = let range : IsInRange 48 57 b = digit_from_value b (omega (arith, digit.1.0)) in grind (arith, nat_tests)

-- what stands bare in a name or in quotes, and what ends a word there
abbrev pub may_stand : Bool → ℕ → Bool
may_stand true = any_byte
may_stand false = bare_in_label

abbrev pub ends_of : Bool → ℕ → Bool
ends_of true = ends_quoted
ends_of false = ends_word ZoneFile

-- a byte that is printed as it is
record IsBare (q : Bool) (b : ℕ) : Type 0 where
  pub slash : b ≢ 92
  pub quote : b ≢ 34
  pub may : may_stand q b ≡ true
  pub ends : ends_of q b ≡ false

bare_one : (q : Bool) (b : ℕ) → is_special q b ≡ false → is_plain q b ≡ true → IsBare q b
bare_one true b special is = record { slash = λ e. grind (arith, nat_tests); quote = λ e. grind (arith, nat_tests); may = refl; ends = grind (arith, nat_tests) }
bare_one false b special is = record { slash = λ e. grind (arith, nat_tests); quote = λ e. grind (arith, nat_tests); may = grind (arith, nat_tests); ends = grind (arith, nat_tests) }

-- a digit of a number stands bare too
digit_bare : (q : Bool) (d : ℕ) → 48 ≤ d → d < 58 → (d ≢ 92) × (ends_of q d ≡ false)
digit_bare true d low high = (λ e. omega (arith, e, high), grind (arith, nat_tests))
digit_bare false d low high = (λ e. omega (arith, e, high), grind (arith, nat_tests))

-- how one byte is printed
record OneByte (q : Bool) (b : ℕ) (text : List ℕ) : Type 0 where
  pub is_bare : Bool
  pub spelled : SpellsByte text b is_bare
  pub may : IsTrue is_bare → IsTrue (may_stand q b)
  pub whole : IsWhole (ends_of q) text
  pub some : 0 < length text
  pub first : (rest : List ℕ) → get_or (text ++ rest) 0 0 ≢ 34

text_special : (q : Bool) (b : ℕ) → is_special q b ≡ true → byte_text q b ≡ 92 ∷ b ∷ []
text_special q b h = ap (λ (s : Bool). if s then 92 ∷ b ∷ [] else (if is_plain q b then b ∷ [] else decimal_escape b)) h

pub text_plain : (q : Bool) (b : ℕ) → is_special q b ≡ false → is_plain q b ≡ true → byte_text q b ≡ b ∷ []
text_plain q b h k = ap (λ (s : Bool). if s then 92 ∷ b ∷ [] else (if is_plain q b then b ∷ [] else decimal_escape b)) h ∙ ap (λ (s : Bool). if s then b ∷ [] else decimal_escape b) k

text_other : (q : Bool) (b : ℕ) → is_special q b ≡ false → is_plain q b ≡ false → byte_text q b ≡ decimal_escape b
text_other q b h k = ap (λ (s : Bool). if s then 92 ∷ b ∷ [] else (if is_plain q b then b ∷ [] else decimal_escape b)) h ∙ ap (λ (s : Bool). if s then b ∷ [] else decimal_escape b) k

byte_at : (q : Bool) (b : ℕ) (s p : Bool) → is_special q b ≡ s → is_plain q b ≡ p → b < 256 → OneByte q b (byte_text q b)
byte_at q b true p hs hp small = subst (λ (t : List ℕ). OneByte q b t) (sym (text_special q b hs)) (record {
  is_bare = false;
  spelled = byte_escaped (special_no_digit q b hs);
  may = λ e. absurd (cc);
  whole = escaped nothing;
  some = omega arith;
  first = λ rest e. omega (arith, e);
})
byte_at q b false true hs hp small =
    let one : IsBare q b = bare_one q b hs hp in
    subst (λ (t : List ℕ). OneByte q b t) (sym (text_plain q b hs hp)) (record {
      is_bare = true;
      spelled = byte_bare one.slash;
      may = λ e. one.may;
      whole = bare one.slash one.ends nothing;
      some = omega arith;
      first = λ rest e. one.quote e;
    })
byte_at q b false false hs hp small =
    let two = digit_bare q (48 + b / 10 % 10) (omega arith) (omega arith) in
    let three = digit_bare q (48 + b % 10) (omega arith) (omega arith) in
    subst (λ (t : List ℕ). OneByte q b t) (sym (text_other q b hs hp)) (record {
      is_bare = false;
      spelled = numbered (three_digits b small) small;
      may = λ e. absurd (cc);
      whole = escaped (bare two.0 two.1 (bare three.0 three.1 nothing));
      some = omega arith;
      first = λ rest e. omega (arith, e);
    })

one_text : (q : Bool) (b : ℕ) → b < 256 → OneByte q b (byte_text q b)
one_text q b small = byte_at q b (is_special q b) (is_plain q b) refl refl small

pub whole_append : (ends : ℕ → Bool) {a : List ℕ} (b : List ℕ) → IsWhole ends a → IsWhole ends b → IsWhole ends (a ++ b)
whole_append ends b nothing more = more
whole_append ends b (bare other may behind) more = bare other may (whole_append ends b behind more)
whole_append ends b (escaped behind) more = escaped (whole_append ends b behind more)

head_byte : (b : ℕ) (bytes : List ℕ) → AreBytes (b ∷ bytes) → b < 256
head_byte b bytes h = h 0

tail_bytes : (b : ℕ) (bytes : List ℕ) → AreBytes (b ∷ bytes) → AreBytes bytes
tail_bytes b bytes h = λ k. h (suc k)

-- what the bytes of a slice are
pub slice_bytes : (xs : List ℕ) → ((i : ℕ) → Fits w8 (get_or xs i 0)) → AreBytes xs
slice_bytes xs h = λ k. omega (arith, h k)

pub take_bytes : (n : ℕ) (xs : List ℕ) → AreBytes xs → AreBytes (take n xs)
take_bytes zero xs h k = omega arith
take_bytes (suc n) [] h k = omega arith
take_bytes (suc n) (x ∷ xs) h zero = h 0
take_bytes (suc n) (x ∷ xs) h (suc k) = take_bytes n xs (λ j. h (suc j)) k

pub drop_bytes : (n : ℕ) (xs : List ℕ) → AreBytes xs → AreBytes (drop n xs)
drop_bytes zero xs h = h
drop_bytes (suc n) [] h = λ k. omega arith
drop_bytes (suc n) (x ∷ xs) h = drop_bytes n xs (λ j. h (suc j))

-- printed bytes are whole, and spell the bytes
pub whole_bytes : (q : Bool) (bytes : List ℕ) → AreBytes bytes → IsWhole (ends_of q) (bytes_text q bytes)
whole_bytes q [] h = nothing
whole_bytes q (b ∷ bytes) h = whole_append (ends_of q) (bytes_text q bytes) (one_text q b (head_byte b bytes h)).whole (whole_bytes q bytes (tail_bytes b bytes h))

spells_on : (q : Bool) (text front bytes : List ℕ) → AreBytes bytes → Spells (may_stand q) text front → Spells (may_stand q) (text ++ bytes_text q bytes) (front ++ bytes)
spells_on q text front [] h before = subst (λ (t : List ℕ). Spells (may_stand q) t (front ++ [])) (sym (append-nil text)) (subst (λ (f : List ℕ). Spells (may_stand q) text f) (sym (append-nil front)) before)
spells_on q text front (b ∷ bytes) h before =
    let one : OneByte q b (byte_text q b) = one_text q b (head_byte b bytes h) in
    let all = spells_on q (text ++ byte_text q b) (front ++ b ∷ []) bytes (tail_bytes b bytes h) (one_byte before one.spelled one.may) in
    subst (λ (t : List ℕ). Spells (may_stand q) t (front ++ b ∷ bytes)) (append_assoc text (byte_text q b) (bytes_text q bytes))
    (subst (λ (f : List ℕ). Spells (may_stand q) ((text ++ byte_text q b) ++ bytes_text q bytes) f) (append_assoc front (b ∷ []) bytes) all)

pub spells_bytes : (q : Bool) (bytes : List ℕ) → AreBytes bytes → Spells (may_stand q) (bytes_text q bytes) bytes
spells_bytes q bytes h = spells_on q [] [] bytes h no_bytes

-- labels with a dot behind each, as they are printed
abbrev pub labels_line : List (List ℕ) → List ℕ
labels_line labels = flat_map (λ (l : List ℕ). bytes_text false l ++ 46 ∷ []) labels

-- labels of bytes
abbrev pub AreByteLabels : List (List ℕ) → Type 0
AreByteLabels [] = Unit {0}
AreByteLabels (l ∷ ls) = IsLabel l × AreBytes l × AreByteLabels ls

spells_labels : (text : List ℕ) (front labels : List (List ℕ)) → AreByteLabels labels → SpellsLabels text front → SpellsLabels (text ++ labels_line labels) (front ++ labels)
spells_labels text front [] h before = subst (λ (t : List ℕ). SpellsLabels t (front ++ [])) (sym (append-nil text)) (subst (λ (f : List (List ℕ)). SpellsLabels text f) (sym (append-nil front)) before)
spells_labels text front (l ∷ labels) h before =
    let piece : List ℕ = bytes_text false l in
    let one : SpellsLabel piece l = record { spelled = spells_bytes false l h.1; sized = h.0 } in
    let all = spells_labels ((text ++ piece) ++ 46 ∷ []) (front ++ l ∷ []) labels h.2 (one_label before one) in
    let texts : (((text ++ piece) ++ 46 ∷ []) ++ labels_line labels) ≡ (text ++ ((piece ++ 46 ∷ []) ++ labels_line labels)) =
    append_assoc (text ++ piece) (46 ∷ []) (labels_line labels) ∙ append_assoc text piece (46 ∷ labels_line labels) ∙ ap (λ (t : List ℕ). text ++ t) (sym (append_assoc piece (46 ∷ []) (labels_line labels))) in
    subst (λ (t : List ℕ). SpellsLabels t (front ++ l ∷ labels)) texts (subst (λ (f : List (List ℕ)). SpellsLabels (((text ++ piece) ++ 46 ∷ []) ++ labels_line labels) f) (append_assoc front (l ∷ []) labels) all)

whole_labels : (labels : List (List ℕ)) → AreByteLabels labels → IsWhole (ends_word ZoneFile) (labels_line labels)
whole_labels [] h = nothing
whole_labels (l ∷ labels) h =
    let dot : IsWhole (ends_word ZoneFile) (46 ∷ []) = bare (λ e. omega (arith, e)) refl nothing in
    whole_append (ends_word ZoneFile) (labels_line labels) (whole_append (ends_word ZoneFile) (46 ∷ []) (whole_bytes false l h.1) dot) (whole_labels labels h.2)

-- the text of a name: its labels with a dot behind each, and of the root a dot
abbrev pub name_text : List (List ℕ) → List ℕ
name_text [] = 46 ∷ []
name_text (l ∷ ls) = labels_line (l ∷ ls)

label_some : (l : List ℕ) → IsLabel l → AreBytes l → (rest : List ℕ) → (0 < length (bytes_text false l)) × (get_or (bytes_text false l ++ rest) 0 0 ≢ 34)
label_some [] sized h rest = absurd (omega (arith, sized.0))
label_some (b ∷ bytes) sized h rest =
    let one : OneByte false b (byte_text false b) = one_text false b (head_byte b bytes h) in
    (omega (arith, one.some, length-append (byte_text false b) (bytes_text false bytes)), λ e. one.first (bytes_text false bytes ++ rest) (ap (λ (t : List ℕ). get_or t 0 0) (sym (append_assoc (byte_text false b) (bytes_text false bytes) rest)) ∙ e))

ends_dot : (l : List ℕ) (labels : List (List ℕ)) → (front : List ℕ) × (labels_line (l ∷ labels) ≡ front ++ 46 ∷ [])
ends_dot l [] = (bytes_text false l, append-nil (bytes_text false l ++ 46 ∷ []))
ends_dot l (m ∷ labels) =
    let last = ends_dot m labels in
    ((bytes_text false l ++ 46 ∷ []) ++ last.0, ap (λ (t : List ℕ). (bytes_text false l ++ 46 ∷ []) ++ t) last.1 ∙ sym (append_assoc (bytes_text false l ++ 46 ∷ []) last.0 (46 ∷ [])))

-- the text of a name can stand in no quotes, and is not `\#`
pub name_plain : (labels : List (List ℕ)) → AreByteLabels labels → IsPlain (name_text labels)
name_plain [] h = record { whole = bare (λ e. omega (arith, e)) refl nothing; some = omega arith; no_quote = λ e. omega (arith, e) }
name_plain (l ∷ labels) h =
    let some = label_some l h.0 h.1 (46 ∷ labels_line labels) in
    record {
      whole = whole_labels (l ∷ labels) h;
      some = omega (arith, some.0, length-append (bytes_text false l ++ 46 ∷ []) (labels_line labels), length-append (bytes_text false l) (46 ∷ []));
      no_quote = λ e. some.1 (ap (λ (t : List ℕ). get_or t 0 0) (sym (append_assoc (bytes_text false l) (46 ∷ []) (labels_line labels))) ∙ e);
    }

pub name_unmarked : (labels : List (List ℕ)) → name_text labels ≢ 92 ∷ 35 ∷ []
name_unmarked [] e = cc
name_unmarked (l ∷ labels) e =
    let last = ends_dot l labels in
    let same : 46 ≡ 35 = (same_from_push last.0 (92 ∷ []) 46 35 (sym last.1 ∙ e)).1 in
    omega (arith, same)

-- the text of a name spells it, with any origin
pub name_spelled : (origin : Option DomainName) (labels : List (List ℕ)) → AreByteLabels labels → SpellsName origin (name_text labels) labels
name_spelled origin [] h = absolute root
name_spelled origin (l ∷ labels) h =
    let some = label_some l h.0 h.1 [] in
    let long : 2 ≤ length (labels_line (l ∷ labels)) = omega (arith, some.0, length-append (bytes_text false l ++ 46 ∷ []) (labels_line labels), length-append (bytes_text false l) (46 ∷ [])) in
    let not_one : (b : ℕ) → labels_line (l ∷ labels) ≢ b ∷ [] = λ b e. let one : length (labels_line (l ∷ labels)) ≡ 1 = ap length e in omega (arith, one, long) in
    absolute (of_labels (not_one 46) (not_one 64) (dot_last (spells_labels [] [] (l ∷ labels) h no_labels) (λ e. cc)))

-- bytes that stand for themselves in a word in no quotes, at any place
abbrev pub IsSimple : ℕ → Type 0
IsSimple b = (b ≢ 92) × (b ≢ 34) × (ends_word ZoneFile b ≡ false)

abbrev pub AllSimple : List ℕ → Type 0
AllSimple [] = Unit {0}
AllSimple (b ∷ bytes) = IsSimple b × AllSimple bytes

simple_whole : (bytes : List ℕ) → AllSimple bytes → IsWhole (ends_word ZoneFile) bytes
simple_whole [] h = nothing
simple_whole (b ∷ bytes) h = bare h.0.0 h.0.2 (simple_whole bytes h.1)

pub simple_plain : (bytes : List ℕ) → AllSimple bytes → 0 < length bytes → IsPlain bytes × (bytes ≢ 92 ∷ 35 ∷ [])
simple_plain [] h some = absurd (omega (arith, some))
simple_plain (b ∷ bytes) h some = (record { whole = simple_whole (b ∷ bytes) h; some = some; no_quote = h.0.1 }, λ e. h.0.0 (cc))

pub simple_append : (a b : List ℕ) → AllSimple a → AllSimple b → AllSimple (a ++ b)
simple_append [] b h k = k
simple_append (x ∷ a) b h k = (h.0, simple_append a b h.1 k)

pub simple_from : (P : ℕ → Type 0) (bytes : List ℕ) → ((b : ℕ) → P b → IsSimple b) → All P bytes → AllSimple bytes
simple_from P [] one h = tt
simple_from P (b ∷ bytes) one h = (one b (All-head P b bytes h), simple_from P bytes one (All-tail P b bytes h))

pub range_simple : (b : ℕ) → (IsInRange 48 58 b ⊎ IsInRange 97 102 b) ⊎ ((b ≡ 46) ⊎ (IsInRange 65 90 b)) → IsSimple b
range_simple b (inl (inl h)) = (λ e. omega (arith, e, h.1), λ e. omega (arith, e, h.0), grind (arith, nat_tests))
range_simple b (inl (inr h)) = (λ e. omega (arith, e, h.0), λ e. omega (arith, e, h.0), grind (arith, nat_tests))
range_simple b (inr (inl h)) = (λ e. omega (arith, e, h), λ e. omega (arith, e, h), grind (arith, nat_tests))
range_simple b (inr (inr h)) = (λ e. omega (arith, e, h.1), λ e. omega (arith, e, h.0), grind (arith, nat_tests))

digits_simple : (ds : List ℕ) → AllDigits 10 ds → AllSimple ds
digits_simple [] h = tt
digits_simple (d ∷ ds) h = let range : IsInRange 48 57 d = digit_from_value d h.0 in (range_simple d (inl (inl (omega (arith, range.0), omega (arith, range.1)))), digits_simple ds h.1)

pub number_simple : (n : ℕ) → n < 2 ^ 64 → AllSimple (decimal n) × (0 < length (decimal n))
number_simple n small = let is = decimal_is_IsNumeral n small in (digits_simple (decimal n) is.0.1, is.0.0)

pub number_is : (n : ℕ) → n < 2 ^ 64 → IsNumber (decimal n) n
number_is n small = let is = decimal_is_IsNumeral n small in record { digits = is.0; value = is.1 }
