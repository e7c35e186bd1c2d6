-- Lists that are cut at elements that pass a test, from their front on: parts, words and lines.
use Rattle.std.proofs.Common.{◌≡◌, inl, inr, ℕ, suc, ◌+◌, ◌<◌, Bool, true, false, cond, List, [], ◌∷◌, length, take, drop, get_or, Some, None, refl, sym, ap, ◌∙◌, subst, arith, add-one, length-drop, drop-cons}
use Rattle.std.specs.Prelude.{not, filter, unwrap_or, take_while}
use Rattle.std.specs.List.{position, position_or_len, slice_split, onto_first}
use Rattle.std.proofs.lemmas.Bool.{cases_lt, cases_Bool, lt-ltb, le-ltb, ne_eqb}
use Rattle.std.proofs.lemmas.List.{take_all, drop_all, drop-drop}
use Rattle.std.proofs.lemmas.List.Splits.{slice_split_first, slice_split-cons_yes, slice_split-cons_no}
use Rattle.std.proofs.lemmas.List.Sums.{take_while-cons, prefix_len-le-length, prefix_len_stops}
use Rattle.name_lists.specs.Words.{is_some_word, is_blank, words, is_line_feed, lines_of, without_empty_end, begins_comment, words_before_comment}

module _ {X : Type 0} (p : X → Bool) where
  pub position_some : (xs : List X) (n : ℕ) → position p xs ≡ Some n → (n ≡ position_or_len p xs) × (n < length xs)
  position_some xs n e = elim (cases_lt (position_or_len p xs) (length xs)) [
    | inl lt ↦
        let h : Some (position_or_len p xs) ≡ Some n = sym (ap (λ b. cond b (Some (position_or_len p xs)) None) (lt-ltb _ _ lt)) ∙ e in
        let is : position_or_len p xs ≡ n = cc in (sym is, omega arith)
    | inr le ↦ let h : None ≡ Some n = sym (ap (λ b. cond b (Some (position_or_len p xs)) None) (le-ltb _ _ le)) ∙ e in absurd cc
  ]

  pub position_none : (xs : List X) → position p xs ≡ None → position_or_len p xs ≡ length xs
  position_none xs e = elim (cases_lt (position_or_len p xs) (length xs)) [
    | inl lt ↦ let h : Some (position_or_len p xs) ≡ None = sym (ap (λ b. cond b (Some (position_or_len p xs)) None) (lt-ltb _ _ lt)) ∙ e in absurd cc
    | inr le ↦ omega (arith, le, prefix_len-le-length (λ x. not (p x)) xs)
  ]

  pub or_len : (xs : List X) → unwrap_or (position p xs) (length xs) ≡ position_or_len p xs
  or_len xs = elim (cases_lt (position_or_len p xs) (length xs)) [
    | inl lt ↦ ap (λ b. unwrap_or (cond b (Some (position_or_len p xs)) None) (length xs)) (lt-ltb _ _ lt)
    | inr le ↦ ap (λ b. unwrap_or (cond b (Some (position_or_len p xs)) None) (length xs)) (le-ltb _ _ le) ∙ omega (arith, le, prefix_len-le-length (λ x. not (p x)) xs)
  ]

  -- where no element passes there is one part
  pub split_none : (xs : List X) → position_or_len p xs ≡ length xs → slice_split p xs ≡ xs ∷ []
  split_none [] e = refl
  split_none (x ∷ xs) e = elim (cases_Bool (p x)) [
    | inl passes ↦ let zero_is : position_or_len p (x ∷ xs) ≡ 0 = ap (λ b. cond (not b) (1 + position_or_len p xs) 0) passes in absurd (omega arith)
    | inr fails ↦
        let one : position_or_len p (x ∷ xs) ≡ 1 + position_or_len p xs = ap (λ b. cond (not b) (1 + position_or_len p xs) 0) fails in
        let rest : position_or_len p xs ≡ length xs = omega arith in
        slice_split-cons_no p x xs fails ∙ ap (onto_first x) (split_none xs rest)
  ]

  -- the part before the first element that passes, and the parts behind it
  pub split_some : (xs : List X) (n : ℕ) → position p xs ≡ Some n → slice_split p xs ≡ take n xs ∷ slice_split p (drop (n + 1) xs)
  split_some [] n e = let at = position_some [] n e in absurd (omega (arith, at.1))
  split_some (x ∷ xs) n e =
      let at = position_some (x ∷ xs) n e in
      let lt : position_or_len p (x ∷ xs) < length (x ∷ xs) = omega (arith, at.0, at.1) in
      slice_split_first p (x ∷ xs) x lt ∙ ap (λ k. take k (x ∷ xs) ∷ slice_split p (drop (k + 1) (x ∷ xs))) (sym at.0)

-- ---- words

abbrev words_in : List (List ℕ) → List (List ℕ)
words_in parts = filter is_some_word parts

blank_first : (b : ℕ) (bs : List ℕ) → is_blank b ≡ true → words (b ∷ bs) ≡ words bs
blank_first b bs passes = ap (filter is_some_word) (slice_split-cons_yes is_blank b bs passes)

abbrev word_at : List ℕ → ℕ
word_at text = position_or_len (λ b. not (is_blank b)) text

-- the blanks at the front count for nothing
behind_blanks : (text : List ℕ) → words text ≡ words (drop (word_at text) text)
behind_blanks [] = refl
behind_blanks (b ∷ bs) = elim (cases_Bool (is_blank b)) [
  | inl passes ↦
      let at : word_at (b ∷ bs) ≡ suc (word_at bs) = ap (λ t. cond (not (not t)) (1 + word_at bs) 0) passes ∙ omega arith in
      blank_first b bs passes ∙ behind_blanks bs ∙ sym (ap (λ n. words (drop n (b ∷ bs))) at)
  | inr fails ↦ sym (ap (λ n. words (drop n (b ∷ bs))) (ap (λ t. cond (not (not t)) (1 + word_at bs) 0) fails))
]

pub no_words : (text : List ℕ) → position (λ b. not (is_blank b)) text ≡ None → words text ≡ []
no_words text e =
    let all : word_at text ≡ length text = position_none (λ b. not (is_blank b)) text e in
    behind_blanks text ∙ ap words (drop_all (word_at text) text (omega arith))

some_word : (b : ℕ) (bs : List ℕ) → is_some_word (b ∷ bs) ≡ true
some_word b bs = ap not (ne_eqb (length (b ∷ bs)) 0 (λ e. omega arith))

keeps_word : (b : ℕ) (bs : List ℕ) (parts : List (List ℕ)) → filter is_some_word ((b ∷ bs) ∷ parts) ≡ (b ∷ bs) ∷ filter is_some_word parts
keeps_word b bs parts = ap (λ t. cond t ((b ∷ bs) ∷ filter is_some_word parts) (filter is_some_word parts)) (some_word b bs)

is_so : (t : Bool) → not t ≡ false → t ≡ true
is_so true e = refl
is_so false e = absurd cc

is_not_so : (t : Bool) → not (not t) ≡ false → t ≡ false
is_not_so true e = absurd cc
is_not_so false e = refl

-- what stands at a blank has the words behind it
at_blank : (text : List ℕ) → position_or_len is_blank text < length text → words (drop (position_or_len is_blank text) text) ≡ words (drop (position_or_len is_blank text + 1) text)
at_blank text lt =
    let k : ℕ = position_or_len is_blank text in
    let blank : is_blank (get_or text k 0) ≡ true = is_so (is_blank (get_or text k 0)) (prefix_len_stops (λ b. not (is_blank b)) text 0 lt) in
    ap words (drop-cons text k 0 lt) ∙ blank_first (get_or text k 0) (drop (suc k) text) blank ∙ ap (λ n. words (drop n text)) (sym (add-one k))

-- a text whose first byte is no blank begins with a word
front_word : (b : ℕ) (bs : List ℕ) → is_blank b ≡ false → words (b ∷ bs) ≡ take (position_or_len is_blank (b ∷ bs)) (b ∷ bs) ∷ words (drop (position_or_len is_blank (b ∷ bs)) (b ∷ bs))
front_word b bs plain =
    let text : List ℕ = b ∷ bs in
    let k : ℕ = position_or_len is_blank text in
    let some : k ≡ suc (position_or_len is_blank bs) = ap (λ t. cond (not t) (1 + position_or_len is_blank bs) 0) plain ∙ omega arith in
    elim (cases_lt k (length text)) [
      | inl lt ↦
          let first : take k text ≡ b ∷ take (position_or_len is_blank bs) bs = ap (λ n. take n text) some in
          let parts : words text ≡ words_in (take k text ∷ slice_split is_blank (drop (k + 1) text)) = ap (filter is_some_word) (slice_split_first is_blank text 0 lt) in
          let kept : words_in (take k text ∷ slice_split is_blank (drop (k + 1) text)) ≡ take k text ∷ words (drop (k + 1) text) =
          subst (λ w. filter is_some_word (w ∷ slice_split is_blank (drop (k + 1) text)) ≡ w ∷ words (drop (k + 1) text)) (sym first) (keeps_word b (take (position_or_len is_blank bs) bs) (slice_split is_blank (drop (k + 1) text))) in
          parts ∙ kept ∙ ap (λ ws. take k text ∷ ws) (sym (at_blank text lt))
      | inr le ↦
          let all : k ≡ length text = omega (arith, le, prefix_len-le-length (λ x. not (is_blank x)) text) in
          let whole : take k text ≡ text = take_all k text le in
          let none : words (drop k text) ≡ [] = ap words (drop_all k text le) in
          ap (filter is_some_word) (split_none is_blank text all) ∙ keeps_word b bs [] ∙ ap (λ w. w ∷ []) (sym whole) ∙ ap (λ ws. take k text ∷ ws) (sym none)
    ]

-- The text is cut behind its first word.
pub record CutsWord (text word behind : List ℕ) : Type 0 where
  pub words : words text ≡ word ∷ words behind
  pub shorter : length behind < length text

cut_front : (b : ℕ) (bs : List ℕ) → is_blank b ≡ false → CutsWord (b ∷ bs) (take (position_or_len is_blank (b ∷ bs)) (b ∷ bs)) (drop (position_or_len is_blank (b ∷ bs)) (b ∷ bs))
cut_front b bs plain =
    let k : ℕ = position_or_len is_blank (b ∷ bs) in
    let some : k ≡ suc (position_or_len is_blank bs) = ap (λ t. cond (not t) (1 + position_or_len is_blank bs) 0) plain ∙ omega arith in
    record { words = front_word b bs plain; shorter = omega (arith, length-drop k (b ∷ bs), some) }

pub cut_word : (text : List ℕ) (start : ℕ) → position (λ b. not (is_blank b)) text ≡ Some start
    → CutsWord text (take (position_or_len is_blank (drop start text)) (drop start text)) (drop (position_or_len is_blank (drop start text)) (drop start text))
cut_word text start e =
    let at = position_some (λ b. not (is_blank b)) text start e in
    let lt : word_at text < length text = omega (arith, at.0, at.1) in
    let plain : is_blank (get_or text (word_at text) 0) ≡ false = is_not_so (is_blank (get_or text (word_at text) 0)) (prefix_len_stops (λ b. not (not (is_blank b))) text 0 lt) in
    let here : drop start text ≡ get_or text (word_at text) 0 ∷ drop (suc (word_at text)) text = ap (λ n. drop n text) at.0 ∙ drop-cons text (word_at text) 0 lt in
    let cut : CutsWord (drop start text) (take (position_or_len is_blank (drop start text)) (drop start text)) (drop (position_or_len is_blank (drop start text)) (drop start text)) =
    subst (λ (r : List ℕ). CutsWord r (take (position_or_len is_blank r) r) (drop (position_or_len is_blank r) r)) (sym here) (cut_front (get_or text (word_at text) 0) (drop (suc (word_at text)) text) plain) in
    record {
      words = behind_blanks text ∙ ap (λ n. words (drop n text)) (sym at.0) ∙ cut.words;
      shorter = omega (arith, cut.shorter, length-drop start text);
    }

-- ---- lines

pub some_parts : (p : ℕ → Bool) (xs : List ℕ) → (y : List ℕ) × (ys : List (List ℕ)) × (slice_split p xs ≡ y ∷ ys)
some_parts p [] = ([], [], refl)
some_parts p (x ∷ xs) = elim (cases_Bool (p x)) [
  | inl passes ↦ ([], slice_split p xs, slice_split-cons_yes p x xs passes)
  | inr fails ↦ let rest = some_parts p xs in (x ∷ rest.0, rest.1, slice_split-cons_no p x xs fails ∙ ap (onto_first x) rest.2)
]

pub first_line : (text line behind : List ℕ) → slice_split is_line_feed text ≡ line ∷ slice_split is_line_feed behind → lines_of text ≡ line ∷ lines_of behind
first_line text line behind e =
    let some = some_parts is_line_feed behind in
    let parts : slice_split is_line_feed text ≡ line ∷ some.0 ∷ some.1 = e ∙ ap (λ ps. line ∷ ps) some.2 in
    ap without_empty_end parts ∙ ap (λ ls. line ∷ ls) (ap without_empty_end (sym some.2))

pub last_line : (b : ℕ) (bs : List ℕ) → slice_split is_line_feed (b ∷ bs) ≡ (b ∷ bs) ∷ [] → lines_of (b ∷ bs) ≡ (b ∷ bs) ∷ lines_of []
last_line b bs e = ap without_empty_end e ∙ ap (λ t. cond t [] ((b ∷ bs) ∷ [])) (ne_eqb (length (b ∷ bs)) 0 (λ z. omega arith))

-- ---- comments

pub word_before_comment : (text word behind : List ℕ) → words text ≡ word ∷ words behind → begins_comment word ≡ false → words_before_comment text ≡ word ∷ words_before_comment behind
word_before_comment text word behind e plain =
    ap (take_while (λ w. not (begins_comment w))) e ∙ take_while-cons (λ w. not (begins_comment w)) word (words behind)
    ∙ ap (λ t. cond (not t) (word ∷ words_before_comment behind) []) plain

pub comment_first : (text word behind : List ℕ) → words text ≡ word ∷ words behind → begins_comment word ≡ true → words_before_comment text ≡ []
comment_first text word behind e begins =
    ap (take_while (λ w. not (begins_comment w))) e ∙ take_while-cons (λ w. not (begins_comment w)) word (words behind)
    ∙ ap (λ t. cond (not t) (word ∷ words_before_comment behind) []) begins

pub drop_behind : (n : ℕ) (xs : List ℕ) → drop 1 (drop n xs) ≡ drop (n + 1) xs
drop_behind n xs = drop-drop 1 n xs
