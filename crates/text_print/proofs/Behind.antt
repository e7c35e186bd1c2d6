-- What is printed behind the fields stands for its octets, and for no others: strings, hexadecimal digits, and base 64.
use Rattle.std.proofs.Common.{◌≡◌, ◌≢◌, ◌∙◌, ℕ, Bool, true, false, nat_lt, ◌==◌, ◌+◌, ◌-◌, ◌<◌, ◌≤◌, List, [], ◌∷◌, ◌++◌, length, take, drop, decimal, All, Option, None, Ok, sym, ap, subst, refl, arith, append_assoc, append-nil, rules}
use Rattle.std.proofs.Math.Seq.{take-add}
use Rattle.std.proofs.lemmas.List.{length-drop, nil_from_length, same_from_push, take_all, take_rest}
use Rattle.std.proofs.lemmas.Bool.{eqb-true}
use Rattle.std.proofs.lemmas.Bool.Decides.{nat_tests}
use Rattle.std.proofs.lemmas.List.Concat.{flat_map-append}
use Rattle.std.proofs.lemmas.List.Elements.{All-append, All-cons, All-nil}
use Rattle.base64.proofs.EngineFacts.{decode_of-encode_of}
use Rattle.base64.specs.Engines.{standard}
use Rattle.base64.specs.GeneralPurpose.{IsBytes, IsConsistent, decode_of as decode64_of, encode_of}
use Rattle.hex.specs.Hex.{decode_of, encode_upper}
use Rattle.hex.proofs.HexLemmas.{decode_of-encode_upper, decode_of-same, length-encode_with}
use Rattle.wire_names.specs.rr.domain.DomainName.{DomainName}
use Rattle.text_words.specs.declared.words.Word.{Word}
use Rattle.text_words.specs.Spelling.{IsString}
use Rattle.record_text.specs.declared.data.field.Field.TheVariants as field
use Rattle.record_text.specs.declared.data.field.Rest.TheVariants as kind
use Rattle.record_text.specs.RecordText.{ArePlain, AreStrings, IsBase64, IsField, IsRest, bytes_of}
use Rattle.record_text.specs.RecordText.AreStrings.{none as no_strings, more as one_string}
use Rattle.record_text.specs.RecordText.IsField.{string, in_digits}
use Rattle.record_text.specs.RecordText.IsRest.{nothing, strings, hex, base64}
use Rattle.text_print.specs.Printed.{ArePrinted, Printed, line_of, text_of}
use Rattle.text_print.specs.Printed.Printed.{plain}
use Rattle.text_print.specs.PrintedData.{AreDigits, ArePrintedData, IsFormWord, IsPrintedField, IsPrintedRest, PutsField, PutsWords}
use Rattle.text_print.specs.PrintedData.ArePrintedData.{generic}
use Rattle.text_print.specs.PrintedData.AreDigits.{none as no_digits, digits as some_digits}
use Rattle.text_print.proofs.PrintedFields.{plain_word}
use Rattle.text_print.proofs.Reading.{CutWords, OneWord, cut_words, no_push, no_word, one_word}
use Rattle.text_print.proofs.Simple.{base64_simple, base64_some, upper_simple}
use Rattle.text_print.proofs.Spelled.{simple_plain}

-- a word more
pub line_push : (printed : List Printed) (p : Printed) → line_of (printed ++ p ∷ []) ≡ line_of printed ++ text_of p
line_push printed p = flat_map-append text_of printed (p ∷ []) ∙ ap (λ (t : List ℕ). line_of printed ++ t) (append-nil (text_of p))

-- strings that are printed
pub data ArePrintedStrings : List Printed → List ℕ → Type 0 where
  none : ArePrintedStrings [] []
  more : {printed : List Printed} {octets : List ℕ} {p : Printed} {own : List ℕ} → ArePrintedStrings printed octets → IsFormWord p → IsPrintedField field.String p own → ArePrintedStrings (printed ++ p ∷ []) (octets ++ own)

string_of : (origin : Option DomainName) (w : Word) (octets : List ℕ) → IsField origin field.String w octets → IsString w octets
string_of origin w octets (string is) = is
string_of origin w octets (in_digits p i) = elim i [ ]

strings_are : {printed : List Printed} {octets : List ℕ} → ArePrintedStrings printed octets → (words : List Word) → ArePrinted printed words → AreStrings words octets
strings_are none words h = subst (λ (ws : List Word). AreStrings ws []) (no_word words h) no_strings
strings_are (more {printed = ps} {octets = octets} {p = p} {own = own} before good one) words h =
    let parts : CutWords ps (p ∷ []) words = cut_words ps (p ∷ []) words h in
    let last : OneWord p parts.last = one_word p parts.last parts.lasts in
    subst (λ (ws : List Word). AreStrings ws (octets ++ own)) (sym (parts.whole ∙ ap (λ (t : List Word). parts.first ++ t) last.alone))
    (one_string (strings_are before parts.first parts.firsts) (string_of None last.word own (one.is None last.word last.printed)))

strings_only : {printed : List Printed} {octets others : List ℕ} {ws : List Word} → ArePrintedStrings printed octets → (words : List Word) → ArePrinted printed words → AreStrings ws others → words ≡ ws → others ≡ octets
strings_only none words h no_strings e = refl
strings_only none words h (one_string {words = ws} {word = w} before one) e = absurd (no_push ws w (no_word words h ∙ e))
strings_only (more {printed = ps} {p = p} before good one) words h no_strings e =
    let parts : CutWords ps (p ∷ []) words = cut_words ps (p ∷ []) words h in
    let last : OneWord p parts.last = one_word p parts.last parts.lasts in
    absurd (no_push parts.first last.word (sym e ∙ parts.whole ∙ ap (λ (t : List Word). parts.first ++ t) last.alone))
strings_only (more {printed = ps} {octets = a} {p = p} {own = x} before good one) words h (one_string {words = ws'} {octets = b} {own = y} {word = w'} before' one') e =
    let parts : CutWords ps (p ∷ []) words = cut_words ps (p ∷ []) words h in
    let last : OneWord p parts.last = one_word p parts.last parts.lasts in
    let same = same_from_push parts.first ws' last.word w' (sym (parts.whole ∙ ap (λ (t : List Word). parts.first ++ t) last.alone) ∙ e) in
    let front : b ≡ a = strings_only before parts.first parts.firsts before' same.0 in
    let own : y ≡ x = one.only None last.word y last.printed (string (subst (λ (v : Word). IsString v y) (sym same.1) one')) in
    ap (λ (t : List ℕ). t ++ y) front ∙ ap (λ (t : List ℕ). a ++ t) own

strings_good : {printed : List Printed} {octets : List ℕ} → ArePrintedStrings printed octets → All IsFormWord printed
strings_good none = All-nil IsFormWord
strings_good (more {printed = ps} {p = p} before good one) = All-append IsFormWord ps (p ∷ []) (strings_good before) (All-cons IsFormWord p [] good (All-nil IsFormWord))

no_octets : {printed : List Printed} {octets : List ℕ} → ArePrintedStrings printed octets → printed ≡ [] → octets ≡ []
no_octets none e = refl
no_octets (more {printed = ps} {p = p} before good one) e = absurd (no_push ps p (sym e))

some_words : (printed : List Printed) (words : List Word) → ArePrinted printed words → words ≡ [] → printed ≡ []
some_words [] words h e = refl
some_words (p ∷ printed) [] h e = absurd h
some_words (p ∷ printed) (w ∷ words) h e = cc

rest_strings : (origin : Option DomainName) (words : List Word) (others : List ℕ) → IsRest origin kind.Strings words others → AreStrings words others
rest_strings origin words others (strings some are) = are

pub printed_strings : (printed : List Printed) (octets : List ℕ) → ArePrintedStrings printed octets → 0 < length octets → IsPrintedRest kind.Strings printed octets
printed_strings printed octets are some = record {
  words = strings_good are;
  is = λ origin words h. strings (λ e. let empty : octets ≡ [] = no_octets are (some_words printed words h e) in omega (arith, some, ap length empty)) (strings_are are words h);
  only = λ origin words others h that. strings_only are words h (rest_strings origin words others that) refl;
}

-- none is left
rest_nothing : (origin : Option DomainName) (words : List Word) (others : List ℕ) → IsRest origin kind.Nothing words others → others ≡ []
rest_nothing origin words others nothing = refl

pub printed_nothing : (octets : List ℕ) → octets ≡ [] → IsPrintedRest kind.Nothing [] octets
printed_nothing octets e = record {
  words = All-nil IsFormWord;
  is = λ origin words h. subst (λ (o : List ℕ). IsRest origin kind.Nothing words o) (sym e) (subst (λ (ws : List Word). IsRest origin kind.Nothing ws []) (no_word words h) nothing);
  only = λ origin words others h that. rest_nothing origin words others that ∙ sym e;
}

-- one word in no quotes
plain_alone : (text : List ℕ) (words : List Word) → ArePrinted (plain text ∷ []) words → ArePlain words × (bytes_of words ≡ text) × (words ≢ [])
plain_alone text [] h = absurd h
plain_alone text (w ∷ []) h = (All-cons (λ (v : Word). v.quoted ≡ false) w [] h.0.0 (All-nil (λ (v : Word). v.quoted ≡ false)), append-nil w.bytes.now ∙ h.0.1, λ e. cc)
plain_alone text (w ∷ v ∷ words) h = absurd h.1

rest_hex : (origin : Option DomainName) (words : List Word) (others : List ℕ) → IsRest origin kind.Hex words others → decode_of (bytes_of words) ≡ Ok others
rest_hex origin words others (hex some flat is) = is

upper_some : (octets : List ℕ) → 0 < length octets → 0 < length (encode_upper octets)
upper_some octets some = omega (arith, length-encode_with Rattle.hex.specs.Hex.upper_digits octets, some)

pub printed_hex : (octets : List ℕ) → IsBytes octets → 0 < length octets → IsPrintedRest kind.Hex (plain (encode_upper octets) ∷ []) octets
printed_hex octets bytes some =
    let good : IsFormWord (plain (encode_upper octets)) = plain_word (encode_upper octets) (simple_plain (encode_upper octets) (upper_simple octets) (upper_some octets some)) in
    let is : decode_of (encode_upper octets) ≡ Ok octets = decode_of-encode_upper octets bytes in
    record {
      words = All-cons IsFormWord (plain (encode_upper octets)) [] good (All-nil IsFormWord);
      is = λ origin words h. let one = plain_alone (encode_upper octets) words h in hex one.2 one.0 (subst (λ (t : List ℕ). decode_of t ≡ Ok octets) (sym one.1) is);
      only = λ origin words others h that. let one = plain_alone (encode_upper octets) words h in decode_of-same (bytes_of words) others octets (rest_hex origin words others that) (subst (λ (t : List ℕ). decode_of t ≡ Ok octets) (sym one.1) is);
    }

pub printed_digits : (octets : List ℕ) → IsBytes octets → 0 < length octets → AreDigits (plain (encode_upper octets) ∷ []) octets
printed_digits octets bytes some = some_digits (simple_plain (encode_upper octets) (upper_simple octets) (upper_some octets some)).0 (decode_of-encode_upper octets bytes)

rest_base64 : (origin : Option DomainName) (words : List Word) (others : List ℕ) → IsRest origin kind.Base64 words others → IsBase64 words others
rest_base64 origin words others (base64 is) = is

base64_once : (a b : List ℕ) → IsBytes a → IsBytes b → encode_of standard a ≡ encode_of standard b → a ≡ b
base64_once a b one two same =
    let consistent : IsConsistent standard = search rules in
    let left : decode64_of standard (encode_of standard a) ≡ Ok a = decode_of-encode_of standard a consistent one in
    let right : decode64_of standard (encode_of standard b) ≡ Ok b = decode_of-encode_of standard b consistent two in
    let moved : decode64_of standard (encode_of standard a) ≡ Ok b = ap (decode64_of standard) same ∙ right in
    cc

pub printed_base64 : (octets : List ℕ) → IsBytes octets → 0 < length octets → IsPrintedRest kind.Base64 (plain (encode_of standard octets) ∷ []) octets
printed_base64 octets bytes some =
    let good : IsFormWord (plain (encode_of standard octets)) = plain_word (encode_of standard octets) (simple_plain (encode_of standard octets) (base64_simple octets) (base64_some octets some)) in
    record {
      words = All-cons IsFormWord (plain (encode_of standard octets)) [] good (All-nil IsFormWord);
      is = λ origin words h. let one = plain_alone (encode_of standard octets) words h in base64 (record { some = one.2; plain = one.0; bytes = bytes; encoded = one.1 });
      only = λ origin words others h that.
          let one = plain_alone (encode_of standard octets) words h in
          let is : IsBase64 words others = rest_base64 origin words others that in
          base64_once others octets is.bytes bytes (sym is.encoded ∙ one.1);
    }

alone : (text : List ℕ) → line_of (plain text ∷ []) ≡ 32 ∷ text
alone text = append-nil (32 ∷ text)

pub put_hex_word : (octets before after : List ℕ) → IsBytes octets → 0 < length octets → after ≡ before ++ 32 ∷ encode_upper octets → PutsWords (λ printed. IsPrintedRest kind.Hex printed octets) before after
put_hex_word octets before after bytes some put = (plain (encode_upper octets) ∷ [], put ∙ ap (λ (t : List ℕ). before ++ t) (sym (alone (encode_upper octets))), printed_hex octets bytes some)

pub put_base64_word : (octets before middle after : List ℕ) → IsBytes octets → 0 < length octets → middle ≡ before ++ 32 ∷ [] → after ≡ middle ++ encode_of standard octets → PutsWords (λ printed. IsPrintedRest kind.Base64 printed octets) before after
put_base64_word octets before middle after bytes some first put = (
  plain (encode_of standard octets) ∷ [],
  put ∙ ap (λ (t : List ℕ). t ++ encode_of standard octets) first ∙ append_assoc before (32 ∷ []) (encode_of standard octets) ∙ ap (λ (t : List ℕ). before ++ t) (sym (alone (encode_of standard octets))),
  printed_base64 octets bytes some,
)

-- data in the form that is one for all types
pub put_empty : (octets before after : List ℕ) → octets ≡ [] → after ≡ before ++ 32 ∷ 92 ∷ 35 ∷ 32 ∷ decimal (length octets) → (number : ℕ) → PutsWords (λ printed. ArePrintedData number printed octets) before after
put_empty octets before after e put number = (
  plain (92 ∷ 35 ∷ []) ∷ plain (decimal (length octets)) ∷ [],
  put ∙ ap (λ (t : List ℕ). before ++ 32 ∷ 92 ∷ 35 ∷ t) (sym (alone (decimal (length octets)))),
  generic (subst (λ (o : List ℕ). AreDigits [] o) (sym e) no_digits),
)

pub put_digits : (octets before middle after : List ℕ) → IsBytes octets → 0 < length octets → middle ≡ before ++ 32 ∷ 92 ∷ 35 ∷ 32 ∷ decimal (length octets) → after ≡ middle ++ 32 ∷ encode_upper octets → (number : ℕ)
    → PutsWords (λ printed. ArePrintedData number printed octets) before after
put_digits octets before middle after bytes some first put number =
    let count : List ℕ = decimal (length octets) in
    let front : List ℕ = 32 ∷ 92 ∷ 35 ∷ 32 ∷ count in
    let rest : (front ++ 32 ∷ encode_upper octets) ≡ line_of (plain (92 ∷ 35 ∷ []) ∷ plain count ∷ plain (encode_upper octets) ∷ []) = ap (λ (t : List ℕ). 32 ∷ 92 ∷ 35 ∷ 32 ∷ (count ++ t)) (sym (alone (encode_upper octets))) in (
      plain (92 ∷ 35 ∷ []) ∷ plain count ∷ plain (encode_upper octets) ∷ [],
      put ∙ ap (λ (t : List ℕ). t ++ 32 ∷ encode_upper octets) first ∙ append_assoc before front (32 ∷ encode_upper octets) ∙ ap (λ (t : List ℕ). before ++ t) rest,
      generic (printed_digits octets bytes some),
    )

-- strings so far, and one more
abbrev pub StringsTo : List ℕ → List ℕ → List ℕ → Type 0
StringsTo octets before after = (printed : List Printed) × (after ≡ before ++ line_of printed) × ArePrintedStrings printed octets

pub strings_init : (before after : List ℕ) → after ≡ before → StringsTo [] before after
strings_init before after e = ([], e ∙ sym (append-nil before), none)

pub strings_more : (all : List ℕ) (place len : ℕ) (before middle after : List ℕ) → StringsTo (take place all) before middle → PutsField field.String (take len (drop place all)) middle after → StringsTo (take (place + len) all) before after
strings_more all place len before middle after (printed, put, are) (p, one, good, is) = (
  printed ++ p ∷ [],
  one ∙ ap (λ (t : List ℕ). t ++ text_of p) put ∙ append_assoc before (line_of printed) (text_of p) ∙ ap (λ (t : List ℕ). before ++ t) (sym (line_push printed p)),
  subst (λ (o : List ℕ). ArePrintedStrings (printed ++ p ∷ []) o) (sym (take-add place len all)) (more are good is),
)

pub put_strings_words : (all before after : List ℕ) → 0 < length all → StringsTo all before after → PutsWords (λ printed. IsPrintedRest kind.Strings printed all) before after
put_strings_words all before after some (printed, put, are) = (printed, put, printed_strings printed all are some)

pub strings_step : (all : List ℕ) (place len : ℕ) (before middle after : List ℕ) → place ≤ length all → StringsTo (take place all) before middle
    → (len ≤ length (take (length all - place) (drop place all))) × PutsField field.String (take len (take (length all - place) (drop place all))) middle after → (place + len ≤ length all) × StringsTo (take (place + len) all) before after
strings_step all place len before middle after within so_far one =
    let rest : take (length all - place) (drop place all) ≡ drop place all = take_rest all place in (
      omega (arith, one.0, ap (λ (t : List ℕ). length t) rest, length-drop place all, within),
      strings_more all place len before middle after so_far (subst (λ (t : List ℕ). PutsField field.String (take len t) middle after) rest one.1),
    )

pub strings_end : (all : List ℕ) (place : ℕ) (before after : List ℕ) → length all ≤ place → place ≤ length all → StringsTo (take place all) before after → nat_lt 0 place ≡ true → PutsWords (λ printed. IsPrintedRest kind.Strings printed all) before after
strings_end all place before after over within so_far some =
    let positive : 0 < place = grind (arith, nat_tests) in
    put_strings_words all before after (omega (arith, positive, within)) (subst (λ (t : List ℕ). StringsTo t before after) (take_all place all over) so_far)

pub put_nothing : (octets before : List ℕ) → octets ≡ [] → PutsWords (λ printed. IsPrintedRest kind.Nothing printed octets) before before
put_nothing octets before e = ([], sym (append-nil before), printed_nothing octets e)

-- whether a slice is empty
pub empty_if : (xs : List ℕ) (b : Bool) → b ≡ (length xs == 0) → b ≡ true → xs ≡ []
empty_if xs b e h = nil_from_length xs (eqb-true (length xs) 0 (sym e ∙ h))

pub some_if : (xs : List ℕ) (b : Bool) → b ≡ (length xs == 0) → b ≡ false → 0 < length xs
some_if [] b e h = let clash : true ≡ false = sym e ∙ h in absurd (cc)
some_if (x ∷ xs) b e h = omega arith
