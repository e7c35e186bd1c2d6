-- Words stand in a text in one way.
use Rattle.std.proofs.Common.{◌≡◌, ◌∙◌, ℕ, ◌+◌, ◌⊎◌, inl, inr, List, [], ◌∷◌, ◌++◌, Some, None, get_or, sym, ap, subst, refl}
use Rattle.text_words.specs.declared.words.TextKind.{TextKind}
use Rattle.text_words.specs.declared.words.Word.{Word}
use Rattle.text_words.specs.Words.{AreSameWords, AreWords, AreWordsTo, IsEndFrom, IsPlainWord, IsQuotedWord, IsWordFrom, SameWord, cut_of, ends_quoted, words_left}
use Rattle.text_words.specs.Words.AreWords.{none, more}
use Rattle.text_words.proofs.OneReading.{SameShape, no_quote, same_gap, same_next, same_run, word_stuck}

same_here : (kind : TextKind) (text : List ℕ) (first : ℕ) (a b : Word) (next : ℕ) → IsPlainWord kind text first a next ⊎ IsQuotedWord text first a next → IsPlainWord kind text first b next ⊎ IsQuotedWord text first b next → SameWord a b
same_here kind text first a b next (inl one) (inl two) = record { bytes = one.bytes ∙ sym two.bytes; start = one.start ∙ sym two.start; quoted = one.unquoted ∙ sym two.unquoted }
same_here kind text first a b next (inl one) (inr two) = absurd (no_quote kind (get_or text first 0) one.begins two.opened.is)
same_here kind text first a b next (inr one) (inl two) = absurd (no_quote kind (get_or text first 0) two.begins one.opened.is)
same_here kind text first a b next (inr one) (inr two) =
    let same : one.end ≡ two.end = same_run ends_quoted text (first + 1) one.end two.end refl one.run two.run in
    record { bytes = one.bytes ∙ ap (λ (e : ℕ). cut_of text (first + 1) e) same ∙ sym two.bytes; start = one.start ∙ sym two.start; quoted = one.quoted ∙ sym two.quoted }

module _ (kind : TextKind) (text : List ℕ) where
  same_word : (place depth next next_depth other other_depth : ℕ) (a b : Word) → IsWordFrom (words_left kind text place depth) a next next_depth → IsWordFrom (words_left kind text place depth) b other other_depth → SameWord a b
  same_word place depth next next_depth other other_depth a b one two =
      let at : (one.first ≡ two.first) × (next_depth ≡ other_depth) = same_gap kind text (word_stuck kind text one.first next_depth a next one.is) (word_stuck kind text two.first other_depth b other two.is) one.gap two.gap in
      let end : (next ≡ other) × (next_depth ≡ other_depth) × SameShape (Some a) (Some b) = same_next kind text place depth (Some a) next next_depth (Some b) other other_depth one two in
      same_here kind text two.first a b other (subst (λ (n : ℕ). IsPlainWord kind text two.first a n ⊎ IsQuotedWord text two.first a n) end.0 (subst (λ (f : ℕ). IsPlainWord kind text f a next ⊎ IsQuotedWord text f a next) at.0 one.is)) two.is

  -- the same words, from the first on
  data InOrder : ℕ → ℕ → List Word → ℕ → ℕ → Type 0 where
    last : {place depth : ℕ} → InOrder place depth [] place depth
    first : {place depth middle middle_depth next next_depth : ℕ} {word : Word} {words : List Word} → IsWordFrom (words_left kind text place depth) word middle middle_depth → InOrder middle middle_depth words next next_depth → InOrder place depth (word ∷ words) next next_depth

  one_behind : {place depth middle middle_depth next next_depth : ℕ} {words : List Word} {word : Word} → InOrder place depth words middle middle_depth → IsWordFrom (words_left kind text middle middle_depth) word next next_depth → InOrder place depth (words ++ word ∷ []) next next_depth
  one_behind last is = first is last
  one_behind (first one rest) is = first one (one_behind rest is)

  in_order : {place depth next next_depth : ℕ} {words : List Word} → AreWords (words_left kind text place depth) words next next_depth → InOrder place depth words next next_depth
  in_order none = last
  in_order (more before is) = one_behind (in_order before) is

  once : {place depth next next_depth other other_depth end end' : ℕ} {words others : List Word} → InOrder place depth words next next_depth → IsEndFrom kind text next next_depth end → InOrder place depth others other other_depth → IsEndFrom kind text other other_depth end'
      → AreSameWords words others × (end ≡ end')
  once {place} {depth} {end = end} {end' = end'} last here last there = (tt, (same_next kind text place depth None end 0 None end' 0 (here, refl) (there, refl)).0)
  once {place} {depth} {end = end} last here (first {middle = middle} {middle_depth = middle_depth} {word = word} is rest) there =
      absurd (same_next kind text place depth None end 0 (Some word) middle middle_depth (here, refl) is).2
  once {place} {depth} {end' = end'} (first {middle = middle} {middle_depth = middle_depth} {word = word} is rest) here last there =
      absurd (same_next kind text place depth (Some word) middle middle_depth None end' 0 is (there, refl)).2
  once {place} {depth} {other = other} {other_depth = other_depth} (first {middle = m} {middle_depth = m_depth} {word = a} is rest) here (first {middle = n} {middle_depth = n_depth} {word = b} {words = others} is' rest') there =
      let at : (m ≡ n) × (m_depth ≡ n_depth) × SameShape (Some a) (Some b) = same_next kind text place depth (Some a) m m_depth (Some b) n n_depth is is' in
      let moved : InOrder m m_depth others other other_depth = subst (λ (p : ℕ). InOrder p m_depth others other other_depth) (sym at.0) (subst (λ (d : ℕ). InOrder n d others other other_depth) (sym at.1) rest') in
      let both = once rest here moved there in
      ((same_word place depth m m_depth n n_depth a b is is', both.0), both.1)

pub stand_once : (kind : TextKind) (text : List ℕ) (place depth end other : ℕ) (words others : List Word) → AreWordsTo kind text place depth words end → AreWordsTo kind text place depth others other → AreSameWords words others × (end ≡ other)
stand_once kind text place depth end other words others one two = once kind text (in_order kind text one.front) one.last (in_order kind text two.front) two.last
