-- Printed words of data stand in a text as these data, and as no data of other octets.
use Rattle.std.proofs.Common.{◌≡◌, ◌∙◌, ℕ, ◌+◌, ◌^◌, ◌<◌, ◌≤◌, Bool, true, false, if◌then◌else◌, nat_lt, nat_le, List, [], ◌∷◌, ◌++◌, length, take, drop, All, Option, Some, None, Ok, decimal, sym, ap, subst, refl, arith, append-nil}
use Rattle.std.specs.Prelude.{◌↔◌}
use Rattle.std.specs.List.{AllByRecursion, list_any}
use Rattle.std.specs.Int.{w16, to_be_bytes}
use Rattle.std.proofs.lemmas.Bool.Decides.{nat_tests}
use Rattle.std.proofs.lemmas.List.{drop_at, same_from_push, take_at}
use Rattle.std.proofs.lemmas.List.Elements.{All-append, All-cons, All-head, All-nil, All-tail}
use Rattle.hex.specs.Hex.{decode_of, encode_with}
use Rattle.hex.proofs.HexLemmas.{decode_of-encode_upper, decode_of-same}
use Rattle.wire_names.specs.rr.domain.DomainName.{AreLabels, DomainName}
use Rattle.wire_messages.specs.rr.RecordData.{type_of}
use Rattle.wire_messages.specs.declared.rr.rdata.RData.{RData}
use Rattle.wire_messages.specs.declared.rr.rdata.RData.TheVariants as rdata
use Rattle.wire_messages.specs.declared.rr.record.Record.{Record}
use Rattle.wire_messages.specs.declared.rr.record.Proof.TheVariants.{Indeterminate}
use Rattle.wire_messages.specs.serialize.layout.RecordLayout.{IsFormed, IsFormedRecord, RecordAt}
use Rattle.wire_messages.specs.serialize.writing.FullForm.{HasNames, data_octets, record_octets}
use Rattle.wire_messages.specs.serialize.writing.RecordSize.{data_len, length_fault, unwritable_reason}
use Rattle.hickory_wire.specs.serialize.writing.ReadingBack.{ReadsBack}
use Rattle.text_words.specs.declared.words.Word.{Word}
use Rattle.text_words.specs.Spelling.{IsNumber}
use Rattle.text_words.specs.Words.{AreSameWords, SameWord}
use Rattle.text_words.proofs.WordsOnce.{stand_once}
use Rattle.record_text.specs.declared.data.field.Field.{Field}
use Rattle.record_text.specs.RecordText.{AreFields, ArePlain, AreReadOf, BeginGeneric, IsField, IsRest, IsRow, SpellsData, bytes_of, root_record}
use Rattle.record_text.specs.RecordText.AreFields.{none as no_fields, more as one_field}
use Rattle.record_text.specs.RecordText.IsData.{in_form as of_row}
use Rattle.record_text.specs.RecordText.SpellsData.{in_form as spells_form, generic as spells_generic}
use Rattle.record_text.specs.TypeTable.{TypeRow, row_of}
use Rattle.record_text.proofs.DataLen.{FullSizes, full_len}
use Rattle.record_text.proofs.Formed.{formed_at}
use Rattle.record_text.proofs.NoRow.{fields_len}
use Rattle.text_print.specs.Printed.{ArePrinted, IsPlain, IsPrinted, IsSound, Printed, line_of}
use Rattle.text_print.specs.Printed.Printed.{plain, quoted}
use Rattle.text_print.specs.Printed.IsWhole.{nothing, escaped}
use Rattle.text_print.specs.PrintedData.{AreDigits, ArePrintedData, ArePrintedFields, IsFormWord, IsPrintedRow, IsTextOf}
use Rattle.text_print.specs.PrintedData.AreDigits.{none as no_digits, digits as some_digits}
use Rattle.text_print.specs.PrintedData.ArePrintedData.{in_form, generic}
use Rattle.text_print.specs.PrintedData.ArePrintedFields.{none, more}
use Rattle.text_print.proofs.Spelled.{number_is, number_simple, simple_plain}
use Rattle.text_print.proofs.Standing.{stand}

-- words, cut where the printed ones are
pub record CutWords (front behind : List Printed) (words : List Word) : Type 0 where
  pub first : List Word
  pub last : List Word
  pub whole : words ≡ first ++ last
  pub firsts : ArePrinted front first
  pub lasts : ArePrinted behind last

pub cut_words : (front behind : List Printed) (words : List Word) → ArePrinted (front ++ behind) words → CutWords front behind words
cut_words [] behind words h = record { first = []; last = words; whole = refl; firsts = tt; lasts = h }
cut_words (p ∷ front) behind [] h = absurd h
cut_words (p ∷ front) behind (w ∷ words) h =
    let rest : CutWords front behind words = cut_words front behind words h.1 in
    record { first = w ∷ rest.first; last = rest.last; whole = ap (λ (ws : List Word). w ∷ ws) rest.whole; firsts = (h.0, rest.firsts); lasts = rest.lasts }

-- one word
pub record OneWord (p : Printed) (words : List Word) : Type 0 where
  pub word : Word
  pub alone : words ≡ word ∷ []
  pub printed : IsPrinted p word

pub one_word : (p : Printed) (words : List Word) → ArePrinted (p ∷ []) words → OneWord p words
one_word p [] h = absurd h
one_word p (w ∷ []) h = record { word = w; alone = refl; printed = h.0 }
one_word p (w ∷ v ∷ words) h = absurd h.1

pub no_word : (words : List Word) → ArePrinted [] words → [] ≡ words
no_word [] h = refl
no_word (w ∷ words) h = absurd h

fields_are : (origin : Option DomainName) {fields : List Field} {printed : List Printed} {octets : List ℕ} → ArePrintedFields fields printed octets → (words : List Word) → ArePrinted printed words → AreFields origin fields words octets
fields_are origin none words h = subst (λ (ws : List Word). AreFields origin [] ws []) (no_word words h) no_fields
fields_are origin (more {fields = fs} {printed = ps} {octets = octets} {field = g} {p = p} {own = own} before good one) words h =
    let parts : CutWords ps (p ∷ []) words = cut_words ps (p ∷ []) words h in
    let last : OneWord p parts.last = one_word p parts.last parts.lasts in
    subst (λ (ws : List Word). AreFields origin (fs ++ g ∷ []) ws (octets ++ own)) (sym (parts.whole ∙ ap (λ (t : List Word). parts.first ++ t) last.alone))
    (one_field (fields_are origin before parts.first parts.firsts) (one.is origin last.word last.printed))

pub no_push : {X : Type 0} (xs : List X) (x : X) → [] ≡ xs ++ x ∷ [] → ⊥
no_push [] x e = cc
no_push (y ∷ xs) x e = cc

fields_only : {origin : Option DomainName} {fields gs : List Field} {printed : List Printed} {octets others : List ℕ} {ws : List Word} → ArePrintedFields fields printed octets → (words : List Word) → ArePrinted printed words
    → AreFields origin gs ws others → fields ≡ gs → words ≡ ws → others ≡ octets
fields_only none words h no_fields e f = refl
fields_only none words h (one_field {fields = fs} {field = g} before one) e f = absurd (no_push fs g e)
fields_only (more {fields = fs} {field = g} before good one) words h no_fields e f = absurd (no_push fs g (sym e))
fields_only {origin = origin} (more {fields = fs} {printed = ps} {octets = a} {field = g} {p = p} {own = x} before good one) words h (one_field {fields = fs'} {words = ws'} {octets = b} {field = g'} {word = w'} {own = y} before' one') e f =
    let same = same_from_push fs fs' g g' e in
    let parts : CutWords ps (p ∷ []) words = cut_words ps (p ∷ []) words h in
    let last : OneWord p parts.last = one_word p parts.last parts.lasts in
    let words_same = same_from_push parts.first ws' last.word w' (sym (parts.whole ∙ ap (λ (t : List Word). parts.first ++ t) last.alone) ∙ f) in
    let front : b ≡ a = fields_only before parts.first parts.firsts before' same.0 words_same.0 in
    let moved : IsField origin g last.word y = subst (λ (v : Word). IsField origin g v y) (sym words_same.1) (subst (λ (k : Field). IsField origin k w' y) (sym same.1) one') in
    let own : y ≡ x = one.only origin last.word y last.printed moved in
    ap (λ (t : List ℕ). t ++ y) front ∙ ap (λ (t : List ℕ). a ++ t) own

row_is : (origin : Option DomainName) (row : TypeRow) (printed : List Printed) (octets : List ℕ) (words : List Word) → IsPrintedRow row printed octets → ArePrinted printed words → IsRow origin row words octets
row_is origin row printed octets words is h =
    let parts : CutWords is.front is.behind words = cut_words is.front is.behind words (subst (λ (ps : List Printed). ArePrinted ps words) is.in_order h) in
    record {
      front = parts.first;
      behind = parts.last;
      front_octets = is.front_octets;
      behind_octets = is.behind_octets;
      in_order = parts.whole;
      together = is.together;
      fields = fields_are origin is.fields parts.first parts.firsts;
      rest = is.rest.is origin parts.last parts.lasts;
    }

row_only : (origin : Option DomainName) (row : TypeRow) (printed : List Printed) (octets others : List ℕ) (words : List Word) → IsPrintedRow row printed octets → ArePrinted printed words → IsRow origin row words others → others ≡ octets
row_only origin row printed octets others words is h that =
    let parts : CutWords is.front is.behind words = cut_words is.front is.behind words (subst (λ (ps : List Printed). ArePrinted ps words) is.in_order h) in
    let long : length that.front ≡ length parts.first = fields_len that.fields ∙ sym (fields_len (fields_are origin is.fields parts.first parts.firsts)) in
    let whole : (that.front ++ that.behind) ≡ (parts.first ++ parts.last) = sym that.in_order ∙ parts.whole in
    let first : that.front ≡ parts.first = sym (take_at that.front that.behind (length parts.first) long) ∙ ap (λ (ws : List Word). take (length parts.first) ws) whole ∙ take_at parts.first parts.last (length parts.first) refl in
    let last : that.behind ≡ parts.last = sym (drop_at that.front that.behind (length parts.first) long) ∙ ap (λ (ws : List Word). drop (length parts.first) ws) whole ∙ drop_at parts.first parts.last (length parts.first) refl in
    let front : that.front_octets ≡ is.front_octets = fields_only is.fields parts.first parts.firsts that.fields refl (sym first) in
    let behind : that.behind_octets ≡ is.behind_octets = is.rest.only origin parts.last that.behind_octets parts.lasts (subst (λ (ws : List Word). IsRest origin row.rest ws that.behind_octets) last that.rest) in
    that.together ∙ ap (λ (t : List ℕ). t ++ that.behind_octets) front ∙ ap (λ (t : List ℕ). is.front_octets ++ t) behind ∙ sym is.together

-- no word of data in their form is `\#`
unmarked : (printed : List Printed) (words : List Word) → All IsFormWord printed → ArePrinted printed words → BeginGeneric words → ⊥
unmarked [] [] good h begin = absurd begin
unmarked [] (w ∷ words) good h begin = absurd h
unmarked (p ∷ printed) [] good h begin = absurd h
unmarked (p ∷ printed) (w ∷ []) good h begin = absurd begin
unmarked (plain bytes ∷ printed) (w ∷ v ∷ words) good h begin = (All-head IsFormWord (plain bytes) printed good).unmarked (ap plain (sym h.0.1 ∙ begin.1))
unmarked (quoted bytes ∷ printed) (w ∷ v ∷ words) good h begin = let clash : true ≡ false = sym h.0.0 ∙ begin.0 in cc

fields_good : {fields : List Field} {printed : List Printed} {octets : List ℕ} → ArePrintedFields fields printed octets → All IsFormWord printed
fields_good none = All-nil IsFormWord
fields_good (more {printed = ps} {p = p} before good one) = All-append IsFormWord ps (p ∷ []) (fields_good before) (All-cons IsFormWord p [] good (All-nil IsFormWord))

row_good : (row : TypeRow) (printed : List Printed) (octets : List ℕ) → IsPrintedRow row printed octets → All IsFormWord printed
row_good row printed octets is = subst (λ (ps : List Printed). All IsFormWord ps) (sym is.in_order) (All-append IsFormWord is.front is.behind (fields_good is.fields) is.rest.words)

all_sound : (printed : List Printed) → All IsFormWord printed → All IsSound printed
all_sound [] h = All-nil IsSound
all_sound (p ∷ printed) h = All-cons IsSound p printed (All-head IsFormWord p printed h).sound (all_sound printed (All-tail IsFormWord p printed h))

digits_sound : {printed : List Printed} {octets : List ℕ} → AreDigits printed octets → All IsSound printed
digits_sound no_digits = All-nil IsSound
digits_sound (some_digits {text = text} sound is) = All-cons IsSound (plain text) [] sound (All-nil IsSound)

mark_sound : IsPlain (92 ∷ 35 ∷ [])
mark_sound = record { whole = escaped nothing; some = omega arith; no_quote = λ e. omega (arith, e) }

data_sound : {number : ℕ} {printed : List Printed} {octets : List ℕ} → ArePrintedData number printed octets → length octets < 2 ^ 16 → All IsSound printed
data_sound (in_form {row = row} {printed = printed} {octets = octets} found is) short = all_sound printed (row_good row printed octets is)
data_sound (generic {digits = ds} {octets = octets} are) short =
    let count = number_simple (length octets) (omega (arith, short)) in
    All-cons IsSound (plain (92 ∷ 35 ∷ [])) (plain (decimal (length octets)) ∷ ds) mark_sound (All-cons IsSound (plain (decimal (length octets))) ds (simple_plain (decimal (length octets)) count.0 count.1).0 (digits_sound are))

no_bytes : decode_of [] ≡ Ok []
unfolding encode_with
no_bytes = decode_of-encode_upper [] (λ i. omega arith)

-- the digits of words that were printed
digits_are : {printed : List Printed} {octets : List ℕ} → AreDigits printed octets → (words : List Word) → ArePrinted printed words → ArePlain words × (decode_of (bytes_of words) ≡ Ok octets)
digits_are no_digits [] h = (All-nil (λ (w : Word). w.quoted ≡ false), no_bytes)
digits_are no_digits (w ∷ words) h = absurd h
digits_are (some_digits sound is) [] h = absurd h
digits_are (some_digits {text = text} {octets = octets} sound is) (w ∷ []) h = (
  All-cons (λ (v : Word). v.quoted ≡ false) w [] h.0.0 (All-nil (λ (v : Word). v.quoted ≡ false)),
  subst (λ (t : List ℕ). decode_of t ≡ Ok octets) (sym (append-nil w.bytes.now ∙ h.0.1)) is,
)
digits_are (some_digits sound is) (w ∷ v ∷ words) h = absurd h.1

spells : (origin : Option DomainName) (number : ℕ) (printed : List Printed) (octets : List ℕ) (words : List Word) (rdata : RData) → ArePrintedData number printed octets → ArePrinted printed words → data_octets rdata ≡ octets → type_of rdata ≡ number
    → data_len rdata ≤ 65535 → length octets < 2 ^ 16 → AreReadOf number octets rdata → SpellsData origin number words rdata
spells origin number printed octets words rdata (in_form {row = row} found is) h full typed short small read =
    spells_form (λ begin. unmarked printed words (row_good row printed octets is) h begin) (subst (λ (o : List ℕ). Rattle.record_text.specs.RecordText.IsData origin number words o) (sym full) (of_row found (row_is origin row printed octets words is h))) typed (subst IsFormed (sym read.3) (formed_at read.2)) short
spells origin number printed octets [] rdata (generic are) h full typed short small read = absurd h
spells origin number printed octets (m ∷ []) rdata (generic are) h full typed short small read = absurd h.1
spells origin number printed octets (m ∷ s ∷ ds) rdata (generic are) h full typed short small read =
    let digits = digits_are are ds h.1.1 in
    spells_generic h.0.0 h.0.1 (record {
      octets = octets;
      unquoted = h.1.0.0;
      counted = subst (λ (t : List ℕ). IsNumber t (length octets)) (sym h.1.0.1) (number_is (length octets) (omega (arith, small)));
      short = small;
      plain = digits.0;
      spelled = digits.1;
      read = read;
      typed = typed;
      in_full = full;
    })

same_row : (a b : TypeRow) (r : Option TypeRow) → r ≡ Some a → r ≡ Some b → b ≡ a
same_row a b r e f = cc

spells_only : (origin : Option DomainName) (number : ℕ) (printed : List Printed) (octets : List ℕ) (words : List Word) (other : RData) → ArePrintedData number printed octets → ArePrinted printed words → SpellsData origin number words other → data_octets other ≡ octets
spells_only origin number printed octets words other (in_form {row = row} found is) h (spells_form begins (of_row {row = row'} found' that) same formed short) =
    row_only origin row printed octets (data_octets other) words is h (subst (λ (r : TypeRow). IsRow origin r words (data_octets other)) (same_row row row' (row_of number) found found') that)
spells_only origin number printed octets words other (in_form {row = row} found is) h (spells_generic {mark = mark} {size = size} {digits = digits} flat mark_is that) =
    absurd (unmarked printed (mark ∷ size ∷ digits) (row_good row printed octets is) h (flat, mark_is))
spells_only origin number printed octets [] other (generic are) h (spells_form begins that same formed short) = absurd h
spells_only origin number printed octets (m ∷ []) other (generic are) h (spells_form begins that same formed short) = absurd h.1
spells_only origin number printed octets (m ∷ s ∷ ds) other (generic are) h (spells_form begins that same formed short) = absurd (begins (h.0.0, h.0.1))
spells_only origin number printed octets words other (generic are) h (spells_generic {digits = digits} flat mark_is that) =
    that.in_full ∙ decode_of-same (bytes_of digits) that.octets octets that.spelled (digits_are are digits h.1.1).1

same_one : (p : Printed) (a b : Word) → SameWord a b → IsPrinted p a → IsPrinted p b
same_one (plain bytes) a b s h = (sym s.quoted ∙ h.0, sym s.bytes ∙ h.1)
same_one (quoted bytes) a b s h = (sym s.quoted ∙ h.0, sym s.bytes ∙ h.1)

same_printed : (printed : List Printed) (words others : List Word) → ArePrinted printed words → AreSameWords words others → ArePrinted printed others
same_printed [] [] [] h s = tt
same_printed [] [] (o ∷ others) h s = absurd s
same_printed [] (w ∷ words) others h s = absurd h
same_printed (p ∷ printed) [] others h s = absurd h
same_printed (p ∷ printed) (w ∷ words) [] h s = absurd s
same_printed (p ∷ printed) (w ∷ words) (o ∷ others) h s = (same_one p w o s.0 h.0, same_printed printed words others h.1 s.1)

-- data that have a form are read of their octets
no_fault : (len : ℕ) → len ≤ 65535 → length_fault len ≡ None
no_fault len short = let small : nat_lt 65535 len ≡ false = grind (arith, nat_tests) in ap (λ (b : Bool). if b then Some Rattle.wire_names.specs.declared.error.ProtoError.TheVariants.DataTooLong else None) small

short_strings : (strings : List (List ℕ)) → AllByRecursion (λ (text : List ℕ). length text < 256) strings → list_any (λ (text : List ℕ). nat_lt 255 (length text)) strings ≡ false
short_strings [] h = refl
short_strings (s ∷ strings) h = let small : nat_lt 255 (length s) ≡ false = grind (arith, nat_tests) in rw (small, short_strings strings h.1) refl

pub writable : (content : RData) → IsFormed content → data_len content ≤ 65535 → unwritable_reason content ≡ None
writable (rdata.A address) h short = no_fault (data_len (rdata.A address)) short
writable (rdata.AAAA address) h short = no_fault (data_len (rdata.AAAA address)) short
writable (rdata.NS name) h short = no_fault (data_len (rdata.NS name)) short
writable (rdata.CNAME name) h short = no_fault (data_len (rdata.CNAME name)) short
writable (rdata.PTR name) h short = no_fault (data_len (rdata.PTR name)) short
writable (rdata.MX mx) h short = no_fault (data_len (rdata.MX mx)) short
writable (rdata.SOA soa) h short = no_fault (data_len (rdata.SOA soa)) short
writable (rdata.TXT strings) h short = rw (short_strings strings h.0) (no_fault (data_len (rdata.TXT strings)) short)
writable (rdata.OPT options) h short = no_fault (data_len (rdata.OPT options)) short
writable (rdata.TSIG t) h short = let bound : t.time < 2 ^ 48 = h.0.0 in let small : nat_le (2 ^ 48) t.time ≡ false = grind (arith, nat_tests) in rw small (no_fault (data_len (rdata.TSIG t)) short)
writable (rdata.NULL octets) h short = no_fault (data_len (rdata.NULL octets)) short
writable (rdata.Update0 code) h short = no_fault (data_len (rdata.Update0 code)) short
writable (rdata.Unknown code octets) h short = no_fault (data_len (rdata.Unknown code octets)) short

abbrev root : RData → Record RData
root content = record { name = record { labels = []; is_fqdn = true }; dns_class = 1; ttl = 0; rdata = content; proof = Indeterminate }

-- a record that reads back is read of the octets of its data
read_of : FullSizes → ((r : Record RData) → ReadsBack r ↔ (IsFormedRecord r × AreLabels r.name.labels × HasNames r.rdata × (unwritable_reason r.rdata ≡ None)))
    → (content : RData) → IsFormed content → HasNames content → data_len content ≤ 65535 → AreReadOf (type_of content) (data_octets content) content
read_of sizes back content formed names short =
    let r : Record RData = root content in
    let good : IsFormedRecord r = record { name = refl; class = omega arith; ttl = omega arith; rdata = formed; proof = refl } in
    let labels : AreLabels [] = record { each = All-nil Rattle.wire_names.specs.rr.domain.DomainName.IsLabel; short = omega arith } in
    let at : ReadsBack r = (back r).1 (good, labels, names, writable content formed short) in
    let same : record_octets r ≡ root_record (type_of content) (data_octets content) = sized (sym (full_len sizes content)) in
    (r, length (record_octets r), subst (λ (bytes : List ℕ). RecordAt bytes 0 r (length (record_octets r))) same at, refl)
  where
    sized : data_len content ≡ length (data_octets content) → record_octets (root content) ≡ root_record (type_of content) (data_octets content)
    sized e = ap (λ (n : ℕ). (0 ∷ to_be_bytes w16 (type_of content)) ++ (0 ∷ 1 ∷ 0 ∷ 0 ∷ 0 ∷ 0 ∷ []) ++ to_be_bytes w16 n ++ data_octets content) e

-- printed data are the text of the data
pub text_of_data : FullSizes → ((r : Record RData) → ReadsBack r ↔ (IsFormedRecord r × AreLabels r.name.labels × HasNames r.rdata × (unwritable_reason r.rdata ≡ None)))
    → (content : RData) (printed : List Printed) → IsFormed content → HasNames content → length (data_octets content) < 2 ^ 16 → ArePrintedData (type_of content) printed (data_octets content) → IsTextOf content (line_of printed)
text_of_data sizes back content printed formed names small are =
    let short : data_len content ≤ 65535 = omega (arith, full_len sizes content, small) in
    let sound : All IsSound printed = data_sound are small in
    let read = read_of sizes back content formed names short in
    record {
      stands = λ origin kind before behind ends.
          let all = stand kind before behind printed ends sound in
          record { words = all.0; end = length before + length (line_of printed); stand = all.2; spelled = spells origin (type_of content) printed (data_octets content) all.0 content are all.1 refl refl short small read };
      only = λ origin kind before behind other ends has.
          let all = stand kind before behind printed ends sound in
          let same = stand_once kind ((before ++ line_of printed) ++ behind) (length before) 0 (length before + length (line_of printed)) has.end all.0 has.words all.2 has.stand in
          spells_only origin (type_of content) printed (data_octets content) has.words other are (same_printed printed all.0 has.words all.1 same.0) has.spelled;
    }
