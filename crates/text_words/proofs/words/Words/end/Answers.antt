use Rattle.std.proofs.Common.{◌≡◌, ℕ, List, Option, Some, None, refl, subst}
use Rattle.std.proofs.lemmas.Result.{err_from_is_err_and}
use Rattle.text_words.specs.declared.words.TextKind.{TextKind}
use Rattle.text_words.specs.declared.words.Word.{Word}
use Rattle.text_words.specs.Words.{HasNoEnd, IsNext, words_left}
use Rattle.text_words.proofs.OneReading.{same_next}
use Rattle.text_words.proofs.words.Words.end.Goals as goal

-- where a word stands next, no end does
no_end : (kind : TextKind) (text : List ℕ) (place depth next next_depth : ℕ) (found : Option Word) (word : Word) → found ≡ Some word → IsNext (words_left kind text place depth) found next next_depth → HasNoEnd kind text place depth
no_end kind text place depth next next_depth found word is h end there =
    (same_next kind text place depth (Some word) next next_depth None end 0 (subst (λ (f : Option Word). IsNext (words_left kind text place depth) f next next_depth) is h) (there, refl)).2

pub returns-in_err-word-clause-none : goal.returns-in_err-word-clause-none
returns-in_err-word-clause-none c =
    let p = err_from_is_err_and c.from_residual.result c.from_residual.ensures.1 in
    rw p.1 (λ end is. c.in_err-word.ensures.none None end 0 (is, refl))

pub returns-in-Some-clause-none : goal.returns-in-Some-clause-none
returns-in-Some-clause-none c =
    no_end c.args.self.now.kind c.args.self.now.text c.args.self.now.place c.args.self.now.depth c.next.new.self.place c.next.new.self.depth c.in_ok-word.field-0 c.in-Some.word c.in-Some.is c.in_ok-word.ensures.next
