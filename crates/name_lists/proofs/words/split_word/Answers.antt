use Rattle.std.proofs.Common.{◌≡◌, ◌∷◌, ℕ, List, Some, length, take, drop, sym, ap, ◌∙◌, arith}
use Rattle.std.specs.Prelude.{not}
use Rattle.std.specs.List.{position, position_or_len}
use Rattle.name_lists.specs.Words.{is_blank, words}
use Rattle.name_lists.proofs.Splitting.{cut_word, no_words}
use Rattle.name_lists.proofs.words.split_word.Goals as goal

pub returns-in_default : goal.returns-in_default
returns-in_default c = no_words c.args.text.now (sym c.first_word.ensures ∙ c.in_default.is)

pub split_at-requires-2 : goal.split_at-requires-2
split_at-requires-2 c = c.word_len.ensures.within

pub returns : goal.returns
returns c =
    let text = c.args.text.now in
    let found : position (λ b. not (is_blank b)) text ≡ Some c.in-Some.start = sym c.first_word.ensures ∙ c.in-Some.is in
    let front = c.split_at.result.1.now in
    let cut = cut_word text c.in-Some.start found in
    let first : take c.word_len.result front ≡ take (position_or_len is_blank (drop c.in-Some.start text)) (drop c.in-Some.start text) =
    ap (λ n. take n front) c.word_len.ensures.len ∙ ap (λ (r : List ℕ). take (position_or_len is_blank r) r) c.split_at.ensures.back in
    let rest : drop c.word_len.result front ≡ drop (position_or_len is_blank (drop c.in-Some.start text)) (drop c.in-Some.start text) =
    ap (λ n. drop n front) c.word_len.ensures.len ∙ ap (λ (r : List ℕ). drop (position_or_len is_blank r) r) c.split_at.ensures.back in
    let word : c.split_at-2.result.0.now ≡ take (position_or_len is_blank (drop c.in-Some.start text)) (drop c.in-Some.start text) = c.split_at-2.ensures.front ∙ first in
    let behind : c.split_at-2.result.1.now ≡ drop (position_or_len is_blank (drop c.in-Some.start text)) (drop c.in-Some.start text) = c.split_at-2.ensures.back ∙ rest in (
      cut.words ∙ ap (λ w. w ∷ words (drop (position_or_len is_blank (drop c.in-Some.start text)) (drop c.in-Some.start text))) (sym word) ∙ ap (λ r. c.split_at-2.result.0.now ∷ words r) (sym behind),
      omega (arith, cut.shorter, ap length behind),
    )
