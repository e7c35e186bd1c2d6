-- What stands between words, and where words end, stands in a text in one way.
use Rattle.std.proofs.Common.{◌≡◌, ◌≢◌, ◌∙◌, ℕ, ◌+◌, ◌<◌, ◌≤◌, ◌⊎◌, inl, inr, Bool, true, false, min, List, [], ◌∷◌, ◌++◌, Option, Some, None, length, get_or, sym, ap, subst, refl, arith}
use Rattle.std.proofs.lemmas.Bool.{cases_lt}
use Rattle.std.proofs.lemmas.Bool.Decides.{nat_tests}
use Rattle.text_words.specs.declared.words.TextKind.{TextKind}
use Rattle.text_words.specs.declared.words.TextKind.TheVariants.{Line, ZoneFile}
use Rattle.text_words.specs.declared.words.Word.{Word}
use Rattle.text_words.specs.Words.{WordsLeft, AreWords, AreWordsTo, CrossesLines, EndsAt, HasNoNext, IsByteAt, IsComment, IsEndFrom, IsGap, IsGapEnd, IsNext, IsPiece, IsPlainWord, IsQuotedWord, IsRestOfLine, IsRun, IsRunTo, IsWordFrom, ends_quoted, ends_word, is_blank, words_left}
use Rattle.text_words.specs.Words.IsPiece.{blank, line_feed, opened, closed, comment}
use Rattle.text_words.specs.Words.IsGap.{nothing as no_gap, more as one_gap}
use Rattle.text_words.specs.Words.IsRun.{nothing as no_run, bare, escaped}
use Rattle.text_words.specs.Words.AreWords.{none, more as one_word}

-- blanks are no greater than the space
pub blank_below : (byte : ℕ) → is_blank byte ≡ true → byte ≤ 32
blank_below byte h = grind (arith, nat_tests)

blank_at : (text : List ℕ) (place byte : ℕ) → IsByteAt text place byte → is_blank byte ≡ true → get_or text place 0 ≤ 32
blank_at text place byte at h = omega (arith, at.is, blank_below byte h)

rest_below : (text : List ℕ) (place a b : ℕ) → IsRestOfLine text place a → IsRestOfLine text place b → a < b → ⊥
rest_below text place a b one other less = other.one_line a one.on less (one.last (omega (arith, other.within, less)))

same_rest : (text : List ℕ) (place a b : ℕ) → IsRestOfLine text place a → IsRestOfLine text place b → a ≡ b
same_rest text place a b one other = by_order (cases_lt a b) (cases_lt b a) where
  by_order : (a < b) ⊎ (b ≤ a) → (b < a) ⊎ (a ≤ b) → a ≡ b
  by_order (inl less) _ = absurd (rest_below text place a b one other less)
  by_order _ (inl greater) = absurd (rest_below text place b a other one greater)
  by_order (inr over) (inr under) = omega arith

same_comment : (kind : TextKind) (text : List ℕ) (place a b : ℕ) → IsComment kind text place a → IsComment kind text place b → a ≡ b
same_comment Line text place a b one other = one ∙ sym other
same_comment ZoneFile text place a b one other = same_rest text place a b one other

-- A piece is told by its first byte.
pub same_piece : (kind : TextKind) (text : List ℕ) (place depth a a_depth b b_depth : ℕ) → IsPiece kind text place depth a a_depth → IsPiece kind text place depth b b_depth → (a ≡ b) × (a_depth ≡ b_depth)
same_piece kind text place depth a a_depth b b_depth (blank at is other) (blank at' is' other') = (refl, refl)
same_piece kind text place depth a a_depth b b_depth (blank at is other) (line_feed at' cross) = (refl, refl)
same_piece kind text place depth a a_depth b b_depth (blank {byte = byte} at is other) (opened k at') = absurd (omega (arith, blank_at text place byte at is, at'.is))
same_piece kind text place depth a a_depth b b_depth (blank {byte = byte} at is other) (closed k some at') = absurd (omega (arith, blank_at text place byte at is, at'.is))
same_piece kind text place depth a a_depth b b_depth (blank {byte = byte} at is other) (comment at' end) = absurd (omega (arith, blank_at text place byte at is, at'.is))
same_piece kind text place depth a a_depth b b_depth (line_feed at cross) (blank at' is' other') = (refl, refl)
same_piece kind text place depth a a_depth b b_depth (line_feed at cross) (line_feed at' cross') = (refl, refl)
same_piece kind text place depth a a_depth b b_depth (line_feed at cross) (opened k at') = absurd (omega (arith, at.is, at'.is))
same_piece kind text place depth a a_depth b b_depth (line_feed at cross) (closed k some at') = absurd (omega (arith, at.is, at'.is))
same_piece kind text place depth a a_depth b b_depth (line_feed at cross) (comment at' end) = absurd (omega (arith, at.is, at'.is))
same_piece kind text place depth a a_depth b b_depth (opened k at) (blank {byte = byte} at' is other) = absurd (omega (arith, blank_at text place byte at' is, at.is))
same_piece kind text place depth a a_depth b b_depth (opened k at) (line_feed at' cross) = absurd (omega (arith, at.is, at'.is))
same_piece kind text place depth a a_depth b b_depth (opened k at) (opened k' at') = (refl, refl)
same_piece kind text place depth a a_depth b b_depth (opened k at) (closed k' some at') = absurd (omega (arith, at.is, at'.is))
same_piece kind text place depth a a_depth b b_depth (opened k at) (comment at' end) = absurd (omega (arith, at.is, at'.is))
same_piece kind text place depth a a_depth b b_depth (closed k some at) (blank {byte = byte} at' is other) = absurd (omega (arith, blank_at text place byte at' is, at.is))
same_piece kind text place depth a a_depth b b_depth (closed k some at) (line_feed at' cross) = absurd (omega (arith, at.is, at'.is))
same_piece kind text place depth a a_depth b b_depth (closed k some at) (opened k' at') = absurd (omega (arith, at.is, at'.is))
same_piece kind text place depth a a_depth b b_depth (closed k some at) (closed k' some' at') = (refl, refl)
same_piece kind text place depth a a_depth b b_depth (closed k some at) (comment at' end) = absurd (omega (arith, at.is, at'.is))
same_piece kind text place depth a a_depth b b_depth (comment at end) (blank {byte = byte} at' is other) = absurd (omega (arith, blank_at text place byte at' is, at.is))
same_piece kind text place depth a a_depth b b_depth (comment at end) (line_feed at' cross) = absurd (omega (arith, at.is, at'.is))
same_piece kind text place depth a a_depth b b_depth (comment at end) (opened k at') = absurd (omega (arith, at.is, at'.is))
same_piece kind text place depth a a_depth b b_depth (comment at end) (closed k some at') = absurd (omega (arith, at.is, at'.is))
same_piece kind text place depth a a_depth b b_depth (comment at end) (comment at' end') = (same_comment kind text (place + 1) a b end end', refl)

module _ (kind : TextKind) (text : List ℕ) where
  -- where a gap goes on: nowhere, or over a first piece
  abbrev GoesOn : ℕ → ℕ → ℕ → ℕ → Type 0
  GoesOn place depth next next_depth = ((place ≡ next) × (depth ≡ next_depth)) ⊎ ((middle : ℕ) × (middle_depth : ℕ) × IsPiece kind text place depth middle middle_depth × IsGap kind text middle middle_depth next next_depth)

  first_piece : {place depth next next_depth : ℕ} → IsGap kind text place depth next next_depth → GoesOn place depth next next_depth
  first_piece no_gap = inl (refl, refl)
  first_piece {place} {depth} (one_gap {next = next} {next_depth = next_depth} gap piece) = behind (first_piece gap) piece where
    behind : {place depth middle middle_depth next next_depth : ℕ} → GoesOn place depth middle middle_depth → IsPiece kind text middle middle_depth next next_depth → GoesOn place depth next next_depth
    behind {place} {depth} {middle} {middle_depth} {next} {next_depth} (inl same) piece =
        inr (next, next_depth, subst (λ (p : ℕ). IsPiece kind text p depth next next_depth) (sym same.0) (subst (λ (d : ℕ). IsPiece kind text middle d next next_depth) (sym same.1) piece), no_gap)
    behind (inr (m, m_depth, first, gap)) piece = inr (m, m_depth, first, one_gap gap piece)

  -- From each place of a gap on, it goes on to where no piece stands.
  onward : {place depth next next_depth middle middle_depth : ℕ} → IsGapEnd kind text next next_depth → IsGap kind text place depth next next_depth → IsGap kind text place depth middle middle_depth → IsGap kind text middle middle_depth next next_depth
  onward stuck gap no_gap = gap
  onward stuck gap (one_gap before piece) = over stuck (first_piece (onward stuck gap before)) piece where
    over : {place depth next next_depth middle middle_depth : ℕ} → IsGapEnd kind text next next_depth → GoesOn place depth next next_depth → IsPiece kind text place depth middle middle_depth → IsGap kind text middle middle_depth next next_depth
    over {place} {depth} {next} {next_depth} {middle} {middle_depth} stuck (inl same) piece =
        absurd (stuck middle middle_depth (subst (λ (p : ℕ). IsPiece kind text p next_depth middle middle_depth) same.0 (subst (λ (d : ℕ). IsPiece kind text place d middle middle_depth) same.1 piece)))
    over {place} {depth} {next} {next_depth} {middle} {middle_depth} stuck (inr (m, m_depth, first, gap)) piece =
        let same : (m ≡ middle) × (m_depth ≡ middle_depth) = same_piece kind text place depth m m_depth middle middle_depth first piece in
        subst (λ (p : ℕ). IsGap kind text p middle_depth next next_depth) same.0 (subst (λ (d : ℕ). IsGap kind text m d next next_depth) same.1 gap)

  -- a gap that goes on until no piece stands ends at one place
  pub same_gap : {place depth a a_depth b b_depth : ℕ} → IsGapEnd kind text a a_depth → IsGapEnd kind text b b_depth → IsGap kind text place depth a a_depth → IsGap kind text place depth b b_depth → (a ≡ b) × (a_depth ≡ b_depth)
  same_gap stuck stuck' gap gap' = alike stuck' (first_piece (onward stuck gap gap')) where
    alike : {a a_depth b b_depth : ℕ} → IsGapEnd kind text b b_depth → GoesOn b b_depth a a_depth → (a ≡ b) × (a_depth ≡ b_depth)
    alike stuck (inl same) = (sym same.0, sym same.1)
    alike stuck (inr (m, m_depth, piece, gap)) = absurd (stuck m m_depth piece)

-- behind the text no piece stands
pub stuck_behind : (kind : TextKind) (text : List ℕ) (place depth : ℕ) → length text ≤ place → IsGapEnd kind text place depth
stuck_behind kind text place depth behind next next_depth (blank at is other) = omega (arith, at.within)
stuck_behind kind text place depth behind next next_depth (line_feed at cross) = omega (arith, at.within)
stuck_behind kind text place depth behind next next_depth (opened k at) = omega (arith, at.within)
stuck_behind kind text place depth behind next next_depth (closed k some at) = omega (arith, at.within)
stuck_behind kind text place depth behind next next_depth (comment at end) = omega (arith, at.within)

-- the bytes with which a piece may begin
blank_ends : (kind : TextKind) (byte : ℕ) → is_blank byte ≡ true → ends_word kind byte ≡ true
blank_ends Line byte h = rw h refl
blank_ends ZoneFile byte h = rw h refl

-- no piece begins with a byte that ends no word
pub stuck_at_word : (kind : TextKind) (text : List ℕ) (place depth : ℕ) → ends_word kind (get_or text place 0) ≡ false → IsGapEnd kind text place depth
stuck_at_word kind text place depth begins next next_depth (blank {byte = byte} at is other) =
    let ends : ends_word kind byte ≡ true = blank_ends kind byte is in
    let stays : ends_word kind byte ≡ false = subst (λ (b : ℕ). ends_word kind b ≡ false) at.is begins in
    cc
stuck_at_word Line text place depth begins next next_depth (line_feed at cross) = let stays : ends_word Line 10 ≡ false = subst (λ (b : ℕ). ends_word Line b ≡ false) at.is begins in cc
stuck_at_word ZoneFile text place depth begins next next_depth (line_feed at cross) = let stays : ends_word ZoneFile 10 ≡ false = subst (λ (b : ℕ). ends_word ZoneFile b ≡ false) at.is begins in cc
stuck_at_word Line text place depth begins next next_depth (opened k at) = cc
stuck_at_word ZoneFile text place depth begins next next_depth (opened k at) = let stays : ends_word ZoneFile 40 ≡ false = subst (λ (b : ℕ). ends_word ZoneFile b ≡ false) at.is begins in cc
stuck_at_word Line text place depth begins next next_depth (closed k some at) = cc
stuck_at_word ZoneFile text place depth begins next next_depth (closed k some at) = let stays : ends_word ZoneFile 41 ≡ false = subst (λ (b : ℕ). ends_word ZoneFile b ≡ false) at.is begins in cc
stuck_at_word Line text place depth begins next next_depth (comment at end) = let stays : ends_word Line 59 ≡ false = subst (λ (b : ℕ). ends_word Line b ≡ false) at.is begins in cc
stuck_at_word ZoneFile text place depth begins next next_depth (comment at end) = let stays : ends_word ZoneFile 59 ≡ false = subst (λ (b : ℕ). ends_word ZoneFile b ≡ false) at.is begins in cc

-- nor with a quote
pub stuck_at_quote : (kind : TextKind) (text : List ℕ) (place depth : ℕ) → get_or text place 0 ≡ 34 → IsGapEnd kind text place depth
stuck_at_quote kind text place depth quote next next_depth (blank {byte = byte} at is other) = omega (arith, blank_at text place byte at is)
stuck_at_quote kind text place depth quote next next_depth (line_feed at cross) = omega (arith, at.is)
stuck_at_quote kind text place depth quote next next_depth (opened k at) = omega (arith, at.is)
stuck_at_quote kind text place depth quote next next_depth (closed k some at) = omega (arith, at.is)
stuck_at_quote kind text place depth quote next next_depth (comment at end) = omega (arith, at.is)

-- nor where an entry ends
stuck_at_line_end : (text : List ℕ) (place : ℕ) → get_or text place 0 ≡ 10 → IsGapEnd ZoneFile text place 0
stuck_at_line_end text place feed next next_depth (blank at is other) = other (sym at.is ∙ feed)
stuck_at_line_end text place feed next next_depth (line_feed at cross) = omega (arith, cross)
stuck_at_line_end text place feed next next_depth (opened k at) = omega (arith, at.is)
stuck_at_line_end text place feed next next_depth (closed k some at) = omega (arith, at.is)
stuck_at_line_end text place feed next next_depth (comment at end) = omega (arith, at.is)

pub stuck_at_end : (kind : TextKind) (text : List ℕ) (place : ℕ) → place ≤ length text → EndsAt kind text place → IsGapEnd kind text place 0
stuck_at_end Line text place within last = stuck_behind Line text place 0 (omega (arith, last))
stuck_at_end ZoneFile text place within last = by_order (cases_lt place (length text)) where
  by_order : (place < length text) ⊎ (length text ≤ place) → IsGapEnd ZoneFile text place 0
  by_order (inl inside) = stuck_at_line_end text place (last inside)
  by_order (inr behind) = stuck_behind ZoneFile text place 0 behind

module _ (ends : ℕ → Bool) (text : List ℕ) where
  -- one step of a run
  data Step (place : ℕ) : ℕ → Type 0 where
    bare_step : {byte : ℕ} → IsByteAt text place byte → byte ≢ 92 → ends byte ≡ false → Step place (place + 1)
    escaped_step : IsByteAt text place 92 → Step place (min (place + 2) (length text))

  same_step : (place a b : ℕ) → Step place a → Step place b → a ≡ b
  same_step place a b (bare_step at other stays) (bare_step at' other' stays') = refl
  same_step place a b (bare_step at other stays) (escaped_step at') = absurd (other (sym at.is ∙ at'.is))
  same_step place a b (escaped_step at) (bare_step at' other stays) = absurd (other (sym at'.is ∙ at.is))
  same_step place a b (escaped_step at) (escaped_step at') = refl

  -- where a run goes on: nowhere, or over a first step
  abbrev RunsOn : ℕ → ℕ → Type 0
  RunsOn start end = (start ≡ end) ⊎ ((middle : ℕ) × Step start middle × IsRun ends text middle end)

  step_behind : {start middle end : ℕ} → RunsOn start middle → Step middle end → ((m : ℕ) → IsRun ends text m middle → IsRun ends text m end) → RunsOn start end
  step_behind {start} {middle} {end} (inl same) step further = inr (end, subst (λ (p : ℕ). Step p end) (sym same) step, no_run)
  step_behind (inr (m, first, run)) step further = inr (m, first, further m run)

  first_step : {start end : ℕ} → IsRun ends text start end → RunsOn start end
  first_step no_run = inl refl
  first_step (bare {place = place} run at other stays) = step_behind (first_step run) (bare_step at other stays) (λ m before. bare before at other stays)
  first_step (escaped {place = place} run at) = step_behind (first_step run) (escaped_step at) (λ m before. escaped before at)

  -- no step leads on from here
  abbrev Ends : ℕ → Type 0
  Ends place = (next : ℕ) → Step place next → ⊥

  run_over : {start end middle : ℕ} → Ends end → RunsOn start end → Step start middle → IsRun ends text middle end
  run_over {start} {end} {middle} stuck (inl same) step = absurd (stuck middle (subst (λ (p : ℕ). Step p middle) same step))
  run_over {start} {end} {middle} stuck (inr (m, first, run)) step = subst (λ (p : ℕ). IsRun ends text p end) (same_step start m middle first step) run

  run_onward : {start end middle : ℕ} → Ends end → IsRun ends text start end → IsRun ends text start middle → IsRun ends text middle end
  run_onward stuck run no_run = run
  run_onward stuck run (bare before at other stays) = run_over stuck (first_step (run_onward stuck run before)) (bare_step at other stays)
  run_onward stuck run (escaped before at) = run_over stuck (first_step (run_onward stuck run before)) (escaped_step at)

  alike_run : {a b : ℕ} → Ends b → RunsOn b a → a ≡ b
  alike_run stuck (inl same) = sym same
  alike_run stuck (inr (m, step, run)) = absurd (stuck m step)

  run_ends : (start end : ℕ) → ends 92 ≡ false → IsRunTo ends text start end → Ends end
  run_ends start end stays run next (bare_step {byte = byte} at other bare_byte) =
      let stops : ends byte ≡ true = subst (λ (b : ℕ). ends b ≡ true) at.is (run.last at.within) in
      cc
  run_ends start end stays run next (escaped_step at) =
      let stops : ends 92 ≡ true = subst (λ (b : ℕ). ends b ≡ true) at.is (run.last at.within) in
      cc

  -- a run to the first byte that ends it ends at one place
  pub same_run : (start a b : ℕ) → ends 92 ≡ false → IsRunTo ends text start a → IsRunTo ends text start b → a ≡ b
  same_run start a b stays run other = alike_run (run_ends start b stays other) (first_step (run_onward (run_ends start a stays run) run.run other.run))

backslash_stays : (kind : TextKind) → ends_word kind 92 ≡ false
backslash_stays Line = refl
backslash_stays ZoneFile = refl

-- A word begins here, or no piece stands here and none is left.
abbrev pub IsHere : TextKind → List ℕ → ℕ → ℕ → Option Word → ℕ → ℕ → Type 0
IsHere kind text start depth (Some word) next next_depth = (IsPlainWord kind text start word next ⊎ IsQuotedWord text start word next) × (next_depth ≡ depth)
IsHere kind text start depth None next next_depth = (next ≡ start) × (next_depth ≡ 0) × (depth ≡ 0) × (start ≤ length text) × EndsAt kind text start

pub word_stuck : (kind : TextKind) (text : List ℕ) (first depth : ℕ) (word : Word) (next : ℕ) → IsPlainWord kind text first word next ⊎ IsQuotedWord text first word next → IsGapEnd kind text first depth
word_stuck kind text first depth word next (inl plain) = stuck_at_word kind text first depth plain.begins
word_stuck kind text first depth word next (inr quoted) = stuck_at_quote kind text first depth quoted.opened.is

moved : (kind : TextKind) (text : List ℕ) (first start : ℕ) (word : Word) (next : ℕ) → first ≡ start → IsPlainWord kind text first word next ⊎ IsQuotedWord text first word next → IsPlainWord kind text start word next ⊎ IsQuotedWord text start word next
moved kind text first start word next same is = subst (λ (p : ℕ). IsPlainWord kind text p word next ⊎ IsQuotedWord text p word next) same is

-- What stands next begins where the gap ends.
pub next_here : (kind : TextKind) (text : List ℕ) (place depth start start_depth : ℕ) (found : Option Word) (next next_depth : ℕ) → IsGapEnd kind text start start_depth → IsGap kind text place depth start start_depth
    → IsNext (words_left kind text place depth) found next next_depth → IsHere kind text start start_depth found next next_depth
next_here kind text place depth start start_depth (Some word) next next_depth stuck gap h =
    let same : (h.first ≡ start) × (next_depth ≡ start_depth) = same_gap kind text (word_stuck kind text h.first next_depth word next h.is) stuck h.gap gap in
    (moved kind text h.first start word next same.0 h.is, same.1)
next_here kind text place depth start start_depth None next next_depth stuck gap h =
    let end : IsEndFrom kind text place depth next = h.0 in
    let same : (next ≡ start) × (0 ≡ start_depth) = same_gap kind text (stuck_at_end kind text next end.within end.last) stuck end.gap gap in
    (same.0, h.1, sym same.1, subst (λ (p : ℕ). p ≤ length text) same.0 end.within, subst (λ (p : ℕ). EndsAt kind text p) same.0 end.last)

-- both are words, or neither is
abbrev pub SameShape : Option Word → Option Word → Type 0
SameShape (Some a) (Some b) = Unit {0}
SameShape None None = Unit {0}
SameShape a b = ⊥

-- at the first byte of a word no entry ends
pub no_end_at_word : (kind : TextKind) (text : List ℕ) (start : ℕ) (word : Word) (next : ℕ) → IsPlainWord kind text start word next ⊎ IsQuotedWord text start word next → EndsAt kind text start → ⊥
no_end_at_word Line text start word next (inl plain) last = omega (arith, plain.within, last)
no_end_at_word Line text start word next (inr quoted) last = omega (arith, quoted.opened.within, last)
no_end_at_word ZoneFile text start word next (inl plain) last =
    let stays : ends_word ZoneFile 10 ≡ false = subst (λ (b : ℕ). ends_word ZoneFile b ≡ false) (last plain.within) plain.begins in
    cc
no_end_at_word ZoneFile text start word next (inr quoted) last = omega (arith, quoted.opened.is, last quoted.opened.within)

-- a word in no quotes begins with none
pub no_quote : (kind : TextKind) (byte : ℕ) → ends_word kind byte ≡ false → byte ≡ 34 → ⊥
no_quote Line byte begins quote = let ends : ends_word Line 34 ≡ false = subst (λ (b : ℕ). ends_word Line b ≡ false) quote begins in cc
no_quote ZoneFile byte begins quote = let ends : ends_word ZoneFile 34 ≡ false = subst (λ (b : ℕ). ends_word ZoneFile b ≡ false) quote begins in cc

same_word_end : (kind : TextKind) (text : List ℕ) (start : ℕ) (a b : Word) (next other : ℕ) → IsPlainWord kind text start a next ⊎ IsQuotedWord text start a next → IsPlainWord kind text start b other ⊎ IsQuotedWord text start b other → next ≡ other
same_word_end kind text start a b next other (inl one) (inl two) = same_run (ends_word kind) text start next other (backslash_stays kind) one.run two.run
same_word_end kind text start a b next other (inl one) (inr two) = absurd (no_quote kind (get_or text start 0) one.begins two.opened.is)
same_word_end kind text start a b next other (inr one) (inl two) = absurd (no_quote kind (get_or text start 0) two.begins one.opened.is)
same_word_end kind text start a b next other (inr one) (inr two) =
    one.behind ∙ ap (λ (e : ℕ). e + 1) (same_run ends_quoted text (start + 1) one.end two.end refl one.run two.run) ∙ sym two.behind

same_here : (kind : TextKind) (text : List ℕ) (start depth : ℕ) (found : Option Word) (next next_depth : ℕ) (found' : Option Word) (next' next_depth' : ℕ) → IsHere kind text start depth found next next_depth
    → IsHere kind text start depth found' next' next_depth' → (next ≡ next') × (next_depth ≡ next_depth') × SameShape found found'
same_here kind text start depth (Some a) next next_depth (Some b) next' next_depth' one two = (same_word_end kind text start a b next next' one.0 two.0, one.1 ∙ sym two.1, tt)
same_here kind text start depth (Some a) next next_depth None next' next_depth' one two = absurd (no_end_at_word kind text start a next one.0 two.4)
same_here kind text start depth None next next_depth (Some b) next' next_depth' one two = absurd (no_end_at_word kind text start b next' two.0 one.4)
same_here kind text start depth None next next_depth None next' next_depth' one two = (one.0 ∙ sym two.0, one.1 ∙ sym two.1, tt)

-- what stands next stands there once
pub same_next : (kind : TextKind) (text : List ℕ) (place depth : ℕ) (found : Option Word) (next next_depth : ℕ) (found' : Option Word) (next' next_depth' : ℕ) → IsNext (words_left kind text place depth) found next next_depth
    → IsNext (words_left kind text place depth) found' next' next_depth' → (next ≡ next') × (next_depth ≡ next_depth') × SameShape found found'
same_next kind text place depth (Some word) next next_depth found' next' next_depth' one two =
    let stuck : IsGapEnd kind text one.first next_depth = word_stuck kind text one.first next_depth word next one.is in
    same_here kind text one.first next_depth (Some word) next next_depth found' next' next_depth' (next_here kind text place depth one.first next_depth (Some word) next next_depth stuck one.gap one)
    (next_here kind text place depth one.first next_depth found' next' next_depth' stuck one.gap two)
same_next kind text place depth None next next_depth found' next' next_depth' one two =
    let end : IsEndFrom kind text place depth next = one.0 in
    let stuck : IsGapEnd kind text next 0 = stuck_at_end kind text next end.within end.last in
    same_here kind text next 0 None next next_depth found' next' next_depth' (next_here kind text place depth next 0 None next next_depth stuck end.gap one)
    (next_here kind text place depth next 0 found' next' next_depth' stuck end.gap two)

module _ (kind : TextKind) (text : List ℕ) where
  -- no words, or a first one and those behind it
  abbrev pub BeginWith : ℕ → ℕ → List Word → ℕ → ℕ → Type 0
  BeginWith place depth words next next_depth =
      ((place ≡ next) × (depth ≡ next_depth)) ⊎ ((word : Word) × (middle : ℕ) × (middle_depth : ℕ) × (behind : List Word) × IsWordFrom (words_left kind text place depth) word middle middle_depth × AreWords (words_left kind text middle middle_depth) behind next next_depth)

  one_behind : {place depth middle middle_depth next next_depth : ℕ} (words : List Word) {word : Word} → BeginWith place depth words middle middle_depth → IsWordFrom (words_left kind text middle middle_depth) word next next_depth → BeginWith place depth (words ++ word ∷ []) next next_depth
  one_behind {place} {depth} {middle} {middle_depth} {next} {next_depth} words {word} (inl same) is =
      inr (word, next, next_depth, [], subst (λ (p : ℕ). IsWordFrom (words_left kind text p depth) word next next_depth) (sym same.0) (subst (λ (d : ℕ). IsWordFrom (words_left kind text middle d) word next next_depth) (sym same.1) is), none)
  one_behind words {word} (inr (w, m, m_depth, behind, first, rest)) is = inr (w, m, m_depth, behind ++ word ∷ [], first, one_word rest is)

  pub first_word : {place depth next next_depth : ℕ} {words : List Word} → AreWords (words_left kind text place depth) words next next_depth → BeginWith place depth words next next_depth
  first_word none = inl (refl, refl)
  first_word (one_word {words = words} before is) = one_behind words (first_word before) is

  -- behind the next word stand the words that are left
  pub behind_word : (place depth next next_depth end : ℕ) (word : Word) (words : List Word) → IsWordFrom (words_left kind text place depth) word next next_depth → AreWordsTo kind text place depth words end → (behind : List Word) × AreWordsTo kind text next next_depth behind end
  behind_word place depth next next_depth end word words is all = by_first (first_word all.front) where
    by_first : BeginWith place depth words all.next all.next_depth → (behind : List Word) × AreWordsTo kind text next next_depth behind end
    by_first (inl same) =
        let last : IsEndFrom kind text place depth end = subst (λ (p : ℕ). IsEndFrom kind text p depth end) (sym same.0) (subst (λ (d : ℕ). IsEndFrom kind text all.next d end) (sym same.1) all.last) in
        absurd (same_next kind text place depth (Some word) next next_depth None end 0 is (last, refl)).2
    by_first (inr (w, m, m_depth, behind, first, rest)) =
        let same : (next ≡ m) × (next_depth ≡ m_depth) × SameShape (Some word) (Some w) = same_next kind text place depth (Some word) next next_depth (Some w) m m_depth is first in (
          behind,
          record {
            next = all.next;
            next_depth = all.next_depth;
            front = subst (λ (p : ℕ). AreWords (words_left kind text p next_depth) behind all.next all.next_depth) (sym same.0) (subst (λ (d : ℕ). AreWords (words_left kind text m d) behind all.next all.next_depth) (sym same.1) rest);
            last = all.last;
          },
        )

  -- where neither a word nor an end stands next, no words stand to an end
  pub no_words : (place depth end : ℕ) (words : List Word) → HasNoNext (words_left kind text place depth) → AreWordsTo kind text place depth words end → ⊥
  no_words place depth end words no_next all = by_first (first_word all.front) where
    by_first : BeginWith place depth words all.next all.next_depth → ⊥
    by_first (inl same) =
        no_next None end 0 (subst (λ (p : ℕ). IsEndFrom kind text p depth end) (sym same.0) (subst (λ (d : ℕ). IsEndFrom kind text all.next d end) (sym same.1) all.last), refl)
    by_first (inr (w, m, m_depth, behind, first, rest)) = no_next (Some w) m m_depth first

-- a quote that does not end begins no word
pub no_quoted : (text : List ℕ) (start : ℕ) → IsRunTo ends_quoted text (start + 1) (length text) → (word : Word) (next : ℕ) → IsQuotedWord text start word next → ⊥
no_quoted text start run word next quoted =
    let same : quoted.end ≡ length text = same_run ends_quoted text (start + 1) quoted.end (length text) refl quoted.run run in
    omega (arith, same, quoted.closed.within)

-- where a gap ends, as it was reached
pub record IsReached (kind : TextKind) (text : List ℕ) (place depth : ℕ) (there : WordsLeft) : Type 0 where
  pub gap : IsGap kind text place depth there.place there.depth
  pub whole : IsGapEnd there.kind there.text there.place there.depth
  pub same_kind : there.kind ≡ kind
  pub same_text : there.text ≡ text

module _ (kind : TextKind) (text : List ℕ) (place depth : ℕ) (there : WordsLeft) (at : IsReached kind text place depth there) where
  gap_end : IsGapEnd kind text there.place there.depth
  gap_end = subst (λ (k : TextKind). IsGapEnd k text there.place there.depth) at.same_kind (subst (λ (t : List ℕ). IsGapEnd there.kind t there.place there.depth) at.same_text at.whole)

  here : (found : Option Word) (next next_depth : ℕ) → IsNext (words_left kind text place depth) found next next_depth → IsHere kind text there.place there.depth found next next_depth
  here found next next_depth h = next_here kind text place depth there.place there.depth found next next_depth gap_end at.gap h

  -- a parenthesis that is not closed
  pub no_next_open : there.place ≡ length there.text → 0 < there.depth → HasNoNext (words_left kind text place depth)
  no_next_open at_end unclosed (Some word) next next_depth h = by_word (here (Some word) next next_depth h).0 where
    by_word : IsPlainWord kind text there.place word next ⊎ IsQuotedWord text there.place word next → ⊥
    by_word (inl plain) = omega (arith, plain.within, at_end, ap length at.same_text)
    by_word (inr quoted) = omega (arith, quoted.opened.within, at_end, ap length at.same_text)
  no_next_open at_end unclosed None next next_depth h = omega (arith, unclosed, (here None next next_depth h).2)

  -- a quote that is not closed
  pub no_next_quote : there.place < length there.text → get_or there.text there.place 0 ≡ 34 → ((word : Word) (next : ℕ) → IsQuotedWord there.text there.place word next → ⊥) → HasNoNext (words_left kind text place depth)
  no_next_quote within quote not_quoted (Some word) next next_depth h = by_word (here (Some word) next next_depth h).0 where
    by_word : IsPlainWord kind text there.place word next ⊎ IsQuotedWord text there.place word next → ⊥
    by_word (inl plain) = no_quote kind (get_or text there.place 0) plain.begins (subst (λ (t : List ℕ). get_or t there.place 0 ≡ 34) at.same_text quote)
    by_word (inr quoted) = not_quoted word next (subst (λ (t : List ℕ). IsQuotedWord t there.place word next) (sym at.same_text) quoted)
  no_next_quote within quote not_quoted None next next_depth h =
      no_end kind text there.place (subst (λ (t : List ℕ). there.place < length t) at.same_text within) (subst (λ (t : List ℕ). get_or t there.place 0 ≡ 34) at.same_text quote) (here None next next_depth h).4 where
        no_end : (k : TextKind) (t : List ℕ) (p : ℕ) → p < length t → get_or t p 0 ≡ 34 → EndsAt k t p → ⊥
        no_end Line t p inside is last = omega (arith, last, inside)
        no_end ZoneFile t p inside is last = omega (arith, last inside, is)

  -- a parenthesis that closes none
  pub no_next_stray : there.place < length there.text → get_or there.text there.place 0 ≢ 34 → ends_word there.kind (get_or there.text there.place 0) ≡ true → (get_or there.text there.place 0 ≡ 10 → CrossesLines there.kind there.depth) → HasNoNext (words_left kind text place depth)
  no_next_stray within no_quote ends crosses (Some word) next next_depth h = by_word (here (Some word) next next_depth h).0 where
    by_word : IsPlainWord kind text there.place word next ⊎ IsQuotedWord text there.place word next → ⊥
    by_word (inl plain) =
        let stops : ends_word kind (get_or text there.place 0) ≡ true = subst (λ (k : TextKind). ends_word k (get_or text there.place 0) ≡ true) at.same_kind (subst (λ (t : List ℕ). ends_word there.kind (get_or t there.place 0) ≡ true) at.same_text ends) in
        let begins : ends_word kind (get_or text there.place 0) ≡ false = plain.begins in
        cc
    by_word (inr quoted) = no_quote (subst (λ (t : List ℕ). get_or t there.place 0 ≡ 34) (sym at.same_text) quoted.opened.is)
  no_next_stray within no_quote ends crosses None next next_depth h =
      let shut : there.depth ≡ 0 = (here None next next_depth h).2 in
      no_end there.kind there.text there.place there.depth within shut crosses (subst (λ (k : TextKind). EndsAt k there.text there.place) (sym at.same_kind) (subst (λ (t : List ℕ). EndsAt kind t there.place) (sym at.same_text) (here None next next_depth h).4)) where
        no_end : (k : TextKind) (t : List ℕ) (p d : ℕ) → p < length t → d ≡ 0 → (get_or t p 0 ≡ 10 → CrossesLines k d) → EndsAt k t p → ⊥
        no_end Line t p d inside shut crosses last = omega (arith, last, inside)
        no_end ZoneFile t p d inside shut crosses last = omega (arith, crosses (last inside), shut)
