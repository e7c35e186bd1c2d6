-- Words that are printed stand in the text, one behind the other.
use Rattle.std.proofs.Common.{◌≡◌, ◌∙◌, ℕ, ◌+◌, ◌-◌, ◌<◌, ◌⊎◌, inl, inr, Bool, true, false, min, List, [], ◌∷◌, ◌++◌, length, get_or, take, drop, All, sym, ap, subst, refl, arith, append_assoc, append-nil, length-append}
use Rattle.std.proofs.Math.Seq.{drop-append_seam, get_or-append_seam, take-append_seam}
use Rattle.std.proofs.lemmas.List.Elements.{All-head, All-tail}
use Rattle.std.proofs.lemmas.Bool.Decides.{nat_tests}
use Rattle.text_words.specs.declared.words.TextKind.{TextKind}
use Rattle.text_words.specs.declared.words.TextKind.TheVariants.{Line, ZoneFile}
use Rattle.text_words.specs.declared.words.Word.{Word}
use Rattle.text_words.specs.Words.{AreWords, AreWordsTo, EndsAt, IsByteAt, IsGap, IsPlainWord, IsQuotedWord, IsRun, IsWordFrom, cut_of, ends_quoted, ends_word, is_blank, words_left}
use Rattle.text_words.specs.Words.IsRun.{nothing as no_run, bare as run_bare, escaped as run_escaped}
use Rattle.text_words.specs.Words.IsGap.{nothing as no_gap, more as one_gap}
use Rattle.text_words.specs.Words.IsPiece.{blank}
use Rattle.text_words.specs.Words.AreWords.{none as no_words, more as one_word}
use Rattle.text_print.specs.Printed.{ArePrinted, EndsHere, IsPlain, IsPrinted, IsSound, IsWhole, Printed, line_of, text_of}
use Rattle.text_print.specs.Printed.Printed.{plain, quoted}
use Rattle.text_print.specs.Printed.IsWhole.{nothing, bare, escaped}
use Rattle.text_print.specs.Printed.EndsHere.{whole, line}

byte_at : (before rest : List ℕ) (byte : ℕ) → IsByteAt (before ++ byte ∷ rest) (length before) byte
byte_at before rest byte = record { within = omega (arith, length-append before (byte ∷ rest)); is = get_or-append_seam before byte rest 0 }

-- the same of a text that is so made
stands_at : (text before rest : List ℕ) (byte : ℕ) → text ≡ before ++ byte ∷ rest → IsByteAt text (length before) byte
stands_at text before rest byte e = subst (λ (t : List ℕ). IsByteAt t (length before) byte) (sym e) (byte_at before rest byte)

heads : (a b : ℕ) (r s : List ℕ) → (a ∷ r) ≡ (b ∷ s) → a ≡ b
heads a b r s e = cc

-- bytes that none ends are a run
run_on : (ends : ℕ → Bool) (text before rest bytes : List ℕ) (start : ℕ) → IsWhole ends bytes → text ≡ before ++ (bytes ++ rest) → IsRun ends text start (length before) → IsRun ends text start (length before + length bytes)
run_on ends text before rest bytes start nothing e run = subst (λ (n : ℕ). IsRun ends text start n) (omega arith) run
run_on ends text before rest bytes start (bare {byte = byte} {bytes = others} other may then) e run =
    let at : IsByteAt text (length before) byte = stands_at text before (others ++ rest) byte e in
    let long : length (before ++ byte ∷ []) ≡ length before + 1 = length-append before (byte ∷ []) in
    let moved : text ≡ (before ++ byte ∷ []) ++ (others ++ rest) = e ∙ sym (append_assoc before (byte ∷ []) (others ++ rest)) in
    let next : IsRun ends text start (length (before ++ byte ∷ [])) = subst (λ (n : ℕ). IsRun ends text start n) (sym long) (run_bare run at other may) in
    subst (λ (n : ℕ). IsRun ends text start n) (omega (arith, long)) (run_on ends text (before ++ byte ∷ []) rest others start then moved next)
run_on ends text before rest bytes start (escaped {byte = byte} {bytes = others} then) e run =
    let at : IsByteAt text (length before) 92 = stands_at text before (byte ∷ (others ++ rest)) 92 e in
    let size : length text ≡ length before + length (92 ∷ byte ∷ (others ++ rest)) = ap (λ (t : List ℕ). length t) e ∙ length-append before (92 ∷ byte ∷ (others ++ rest)) in
    let long : length (before ++ 92 ∷ byte ∷ []) ≡ length before + 2 = length-append before (92 ∷ byte ∷ []) in
    let two : min (length before + 2) (length text) ≡ length (before ++ 92 ∷ byte ∷ []) = omega (arith, long, size) in
    let moved : text ≡ (before ++ 92 ∷ byte ∷ []) ++ (others ++ rest) = e ∙ sym (append_assoc before (92 ∷ byte ∷ []) (others ++ rest)) in
    let next : IsRun ends text start (length (before ++ 92 ∷ byte ∷ [])) = subst (λ (n : ℕ). IsRun ends text start n) two (run_escaped run at) in
    subst (λ (n : ℕ). IsRun ends text start n) (omega (arith, long)) (run_on ends text (before ++ 92 ∷ byte ∷ []) rest others start then moved next)

-- what ends no word of a zone file ends none of a line
ends_both : (kind : TextKind) (byte : ℕ) → ends_word ZoneFile byte ≡ false → ends_word kind byte ≡ false
ends_both Line byte h = grind (arith, nat_tests)
ends_both ZoneFile byte h = h

whole_both : (kind : TextKind) (bytes : List ℕ) → IsWhole (ends_word ZoneFile) bytes → IsWhole (ends_word kind) bytes
whole_both kind bytes nothing = nothing
whole_both kind bytes (bare {byte = byte} {bytes = others} other may then) = bare other (ends_both kind byte may) (whole_both kind others then)
whole_both kind bytes (escaped {bytes = others} then) = escaped (whole_both kind others then)

-- what stands behind a word is nothing, or a blank
abbrev Parted : List ℕ → Type 0
Parted rest = (rest ≡ []) ⊎ ((byte : ℕ) × (others : List ℕ) × (rest ≡ byte ∷ others) × (is_blank byte ≡ true))

blank_ends : (kind : TextKind) (byte : ℕ) → is_blank byte ≡ true → ends_word kind byte ≡ true
blank_ends Line byte h = rw h refl
blank_ends ZoneFile byte h = rw h refl

ends_there : (kind : TextKind) (text before rest : List ℕ) → text ≡ before ++ rest → Parted rest → length before < length text → ends_word kind (get_or text (length before) 0) ≡ true
ends_there kind text before rest e (inl none) within = let size : length text ≡ length before = ap (λ (t : List ℕ). length t) (e ∙ ap (λ (r : List ℕ). before ++ r) none ∙ append-nil before) in absurd (omega (arith, size, within))
ends_there kind text before rest e (inr (byte, others, is, blank_byte)) within =
    let at : IsByteAt text (length before) byte = stands_at text before others byte (e ∙ ap (λ (r : List ℕ). before ++ r) is) in
    rw at.is (blank_ends kind byte blank_byte)

-- the bytes that stand between two places
cut_here : (text before bytes rest : List ℕ) → text ≡ before ++ (bytes ++ rest) → cut_of text (length before) (length before + length bytes) ≡ bytes
cut_here text before bytes rest e =
    let count : length before + length bytes - length before ≡ length bytes = omega arith in
    ap (λ (n : ℕ). take n (drop (length before) text)) count ∙ ap (λ (t : List ℕ). take (length bytes) (drop (length before) t)) e
    ∙ ap (λ (t : List ℕ). take (length bytes) t) (drop-append_seam before (bytes ++ rest)) ∙ take-append_seam bytes rest

abbrev word_of : List ℕ → ℕ → Bool → Word
word_of bytes start in_quotes = record { bytes = record { ref_ptr = (0, 0); now = bytes }; start = start; quoted = in_quotes }

-- no word ends at its first byte
slash : (kind : TextKind) → ends_word kind 92 ≡ false
slash Line = refl
slash ZoneFile = refl

first_ends : (kind : TextKind) (byte : ℕ) (bytes all : List ℕ) → IsWhole (ends_word kind) all → all ≡ byte ∷ bytes → ends_word kind byte ≡ false
first_ends kind byte bytes all nothing e = cc
first_ends kind byte bytes all (bare {byte = b} {bytes = bs} other may then) e = subst (λ (x : ℕ). ends_word kind x ≡ false) (heads b byte bs bytes e) may
first_ends kind byte bytes all (escaped {byte = b} {bytes = bs} then) e = subst (λ (x : ℕ). ends_word kind x ≡ false) (heads 92 byte (b ∷ bs) bytes e) (slash kind)

-- a word in no quotes
plain_stands : (kind : TextKind) (text before bytes rest : List ℕ) → IsPlain bytes → text ≡ before ++ (bytes ++ rest) → Parted rest
    → IsPlainWord kind text (length before) (word_of bytes (length before) false) (length before + length bytes)
plain_stands kind text before [] rest is e parted = absurd (omega (arith, is.some))
plain_stands kind text before (byte ∷ bytes) rest is e parted =
    let at : IsByteAt text (length before) byte = stands_at text before (bytes ++ rest) byte e in
    let long : length (before ++ byte ∷ bytes) ≡ length before + length (byte ∷ bytes) = length-append before (byte ∷ bytes) in
    let moved : text ≡ (before ++ byte ∷ bytes) ++ rest = e ∙ sym (append_assoc before (byte ∷ bytes) rest) in
    record {
      within = at.within;
      begins = rw at.is (first_ends kind byte bytes (byte ∷ bytes) (whole_both kind (byte ∷ bytes) is.whole) refl);
      run = record {
        run = run_on (ends_word kind) text before rest (byte ∷ bytes) (length before) (whole_both kind (byte ∷ bytes) is.whole) e no_run;
        last = subst (λ (n : ℕ). n < length text → ends_word kind (get_or text n 0) ≡ true) long (ends_there kind text (before ++ byte ∷ bytes) rest moved parted);
      };
      unquoted = refl;
      start = refl;
      bytes = sym (cut_here text before (byte ∷ bytes) rest e);
    }

-- a word in quotes
quoted_stands : (text before bytes rest : List ℕ) → IsWhole ends_quoted bytes → text ≡ before ++ (34 ∷ (bytes ++ 34 ∷ rest)) → IsQuotedWord text (length before) (word_of bytes (length before + 1) true) (length before + 1 + length bytes + 1)
quoted_stands text before bytes rest is e =
    let long : length (before ++ 34 ∷ []) ≡ length before + 1 = length-append before (34 ∷ []) in
    let moved : text ≡ (before ++ 34 ∷ []) ++ (bytes ++ 34 ∷ rest) = e ∙ sym (append_assoc before (34 ∷ []) (bytes ++ 34 ∷ rest)) in
    let behind : text ≡ ((before ++ 34 ∷ []) ++ bytes) ++ 34 ∷ rest = moved ∙ sym (append_assoc (before ++ 34 ∷ []) bytes (34 ∷ rest)) in
    let longer : length ((before ++ 34 ∷ []) ++ bytes) ≡ length before + 1 + length bytes = length-append (before ++ 34 ∷ []) bytes ∙ ap (λ (n : ℕ). n + length bytes) long in
    let closing : IsByteAt text (length before + 1 + length bytes) 34 = subst (λ (n : ℕ). IsByteAt text n 34) longer (stands_at text ((before ++ 34 ∷ []) ++ bytes) rest 34 behind) in
    record {
      end = length before + 1 + length bytes;
      opened = stands_at text before (bytes ++ 34 ∷ rest) 34 e;
      run = record {
        run = subst (λ (n : ℕ). IsRun ends_quoted text n (n + length bytes)) long (run_on ends_quoted text (before ++ 34 ∷ []) (34 ∷ rest) bytes (length (before ++ 34 ∷ [])) is moved no_run);
        last = λ within. rw closing.is refl;
      };
      closed = closing;
      behind = refl;
      quoted = refl;
      start = refl;
      bytes = sym (subst (λ (n : ℕ). cut_of text n (n + length bytes) ≡ bytes) long (cut_here text (before ++ 34 ∷ []) bytes (34 ∷ rest) moved));
    }

-- what one printed word is
record StandsHere (kind : TextKind) (text before rest : List ℕ) (p : Printed) : Type 0 where
  pub word : Word
  pub printed : IsPrinted p word
  pub from : IsWordFrom (words_left kind text (length before) 0) word (length (before ++ text_of p)) 0

-- a printed word stands behind its space
word_stands : (kind : TextKind) (text before rest : List ℕ) (p : Printed) → IsSound p → text ≡ before ++ (text_of p ++ rest) → Parted rest → StandsHere kind text before rest p
word_stands kind text before rest (plain bytes) sound e parted =
    let long : length (before ++ 32 ∷ []) ≡ length before + 1 = length-append before (32 ∷ []) in
    let moved : text ≡ (before ++ 32 ∷ []) ++ (bytes ++ rest) = e ∙ sym (append_assoc before (32 ∷ []) (bytes ++ rest)) in
    let gap : IsGap kind text (length before) 0 (length (before ++ 32 ∷ [])) 0 = subst (λ (n : ℕ). IsGap kind text (length before) 0 n 0) (sym long) (one_gap no_gap (blank (stands_at text before (bytes ++ rest) 32 e) refl (λ q. omega (arith, q)))) in
    let end : length (before ++ 32 ∷ []) + length bytes ≡ length (before ++ 32 ∷ bytes) = omega (arith, long, length-append before (32 ∷ bytes)) in
    record {
      word = word_of bytes (length (before ++ 32 ∷ [])) false;
      printed = (refl, refl);
      from = record { first = length (before ++ 32 ∷ []); gap = gap; is = inl (subst (λ (n : ℕ). IsPlainWord kind text (length (before ++ 32 ∷ [])) (word_of bytes (length (before ++ 32 ∷ [])) false) n) end (plain_stands kind text (before ++ 32 ∷ []) bytes rest sound moved parted)) };
    }
word_stands kind text before rest (quoted bytes) sound e parted =
    let long : length (before ++ 32 ∷ []) ≡ length before + 1 = length-append before (32 ∷ []) in
    let moved : text ≡ (before ++ 32 ∷ []) ++ (34 ∷ (bytes ++ 34 ∷ rest)) = e ∙ ap (λ (t : List ℕ). before ++ 32 ∷ 34 ∷ t) (append_assoc bytes (34 ∷ []) rest) ∙ sym (append_assoc before (32 ∷ []) (34 ∷ (bytes ++ 34 ∷ rest))) in
    let gap : IsGap kind text (length before) 0 (length (before ++ 32 ∷ [])) 0 = subst (λ (n : ℕ). IsGap kind text (length before) 0 n 0) (sym long) (one_gap no_gap (blank (stands_at text before (34 ∷ ((bytes ++ 34 ∷ []) ++ rest)) 32 e) refl (λ q. omega (arith, q)))) in
    let end : length (before ++ 32 ∷ []) + 1 + length bytes + 1 ≡ length (before ++ 32 ∷ 34 ∷ (bytes ++ 34 ∷ [])) = omega (arith, long, length-append before (32 ∷ 34 ∷ (bytes ++ 34 ∷ [])), length-append bytes (34 ∷ [])) in
    record {
      word = word_of bytes (length (before ++ 32 ∷ []) + 1) true;
      printed = (refl, refl);
      from = record { first = length (before ++ 32 ∷ []); gap = gap; is = inr (subst (λ (n : ℕ). IsQuotedWord text (length (before ++ 32 ∷ [])) (word_of bytes (length (before ++ 32 ∷ []) + 1) true) n) end (quoted_stands text (before ++ 32 ∷ []) bytes rest sound moved)) };
    }

-- words that were printed, behind others that stand there
record AllStand (kind : TextKind) (text before : List ℕ) (place : ℕ) (front : List Word) (printed : List Printed) : Type 0 where
  pub words : List Word
  pub are : ArePrinted printed words
  pub stand : AreWords (words_left kind text place 0) (front ++ words) (length (before ++ line_of printed)) 0

parted_line : (printed : List Printed) (rest : List ℕ) → Parted rest → Parted (line_of printed ++ rest)
parted_line [] rest parted = parted
parted_line (plain bytes ∷ printed) rest parted = inr (32, (bytes ++ line_of printed) ++ rest, refl, refl)
parted_line (quoted bytes ∷ printed) rest parted = inr (32, 34 ∷ (((bytes ++ 34 ∷ []) ++ line_of printed) ++ rest), refl, refl)

words_stand : (kind : TextKind) (text before rest : List ℕ) (place : ℕ) (front : List Word) (printed : List Printed) → All IsSound printed → text ≡ before ++ (line_of printed ++ rest) → Parted rest
    → AreWords (words_left kind text place 0) front (length before) 0 → AllStand kind text before place front printed
words_stand kind text before rest place front [] sound e parted stand = record {
  words = [];
  are = tt;
  stand = subst (λ (ws : List Word). AreWords (words_left kind text place 0) ws (length (before ++ [])) 0) (sym (append-nil front)) (subst (λ (t : List ℕ). AreWords (words_left kind text place 0) front (length t) 0) (sym (append-nil before)) stand);
}
words_stand kind text before rest place front (p ∷ printed) sound e parted stand =
    let whole : text ≡ before ++ (text_of p ++ (line_of printed ++ rest)) = e ∙ ap (λ (t : List ℕ). before ++ t) (append_assoc (text_of p) (line_of printed) rest) in
    let one : StandsHere kind text before (line_of printed ++ rest) p = word_stands kind text before (line_of printed ++ rest) p (All-head IsSound p printed sound) whole (parted_line printed rest parted) in
    let moved : text ≡ (before ++ text_of p) ++ (line_of printed ++ rest) = whole ∙ sym (append_assoc before (text_of p) (line_of printed ++ rest)) in
    let others : AllStand kind text (before ++ text_of p) place (front ++ one.word ∷ []) printed = words_stand kind text (before ++ text_of p) rest place (front ++ one.word ∷ []) printed (All-tail IsSound p printed sound) moved parted (one_word stand one.from) in
    record {
      words = one.word ∷ others.words;
      are = (one.printed, others.are);
      stand = subst (λ (ws : List Word). AreWords (words_left kind text place 0) ws (length (before ++ (text_of p ++ line_of printed))) 0) (append_assoc front (one.word ∷ []) others.words)
          (subst (λ (t : List ℕ). AreWords (words_left kind text place 0) ((front ++ one.word ∷ []) ++ others.words) (length t) 0) (append_assoc before (text_of p) (line_of printed)) others.stand);
    }

parted_end : (kind : TextKind) (behind : List ℕ) → EndsHere kind behind → Parted behind
parted_end kind behind whole = inl refl
parted_end kind behind (line {behind = others}) = inr (10, others, refl, refl)

ends_at : (kind : TextKind) (text before behind : List ℕ) → text ≡ before ++ behind → EndsHere kind behind → EndsAt kind text (length before)
ends_at Line text before behind e whole = sym (ap (λ (t : List ℕ). length t) (e ∙ append-nil before))
ends_at ZoneFile text before behind e whole = λ within. let size : length text ≡ length before = ap (λ (t : List ℕ). length t) (e ∙ append-nil before) in absurd (omega (arith, size, within))
ends_at ZoneFile text before behind e (line {behind = others}) = λ within. (stands_at text before others 10 e).is

pub stand : (kind : TextKind) (before behind : List ℕ) (printed : List Printed) → EndsHere kind behind → All IsSound printed
    → (words : List Word) × ArePrinted printed words × AreWordsTo kind (before ++ line_of printed ++ behind) (length before) 0 words (length before + length (line_of printed))
stand kind before behind printed ends sound =
    let text : List ℕ = (before ++ line_of printed) ++ behind in
    let e : text ≡ before ++ (line_of printed ++ behind) = append_assoc before (line_of printed) behind in
    let all : AllStand kind text before (length before) [] printed = words_stand kind text before behind (length before) [] printed sound e (parted_end kind behind ends) no_words in
    let long : length (before ++ line_of printed) ≡ length before + length (line_of printed) = length-append before (line_of printed) in (
      all.words,
      all.are,
      record {
        next = length before + length (line_of printed);
        next_depth = 0;
        front = subst (λ (n : ℕ). AreWords (words_left kind text (length before) 0) all.words n 0) long all.stand;
        last = record {
          gap = no_gap;
          within = omega (arith, long, length-append (before ++ line_of printed) behind);
          last = subst (λ (n : ℕ). EndsAt kind text n) long (ends_at kind text (before ++ line_of printed) behind refl ends);
        };
      },
    )
