use Rattle.std.proofs.Common.{◌≡◌, ℕ, List, Option, Some, None, subst}
use Rattle.std.proofs.lemmas.Result.{err_from_is_err_and}
use Rattle.text_words.specs.declared.words.TextKind.{TextKind}
use Rattle.text_words.specs.declared.words.Word.{Word}
use Rattle.text_words.specs.Words.{HasNoWord, IsNext, words_left}
use Rattle.text_words.proofs.OneReading.{same_next}
use Rattle.text_words.proofs.words.Words.field.Goals.{in-Some, in-None}
use Rattle.text_words.proofs.words.Words.field.Goals as goal

-- where the end stands next, no word does
no_word : (kind : TextKind) (text : List ℕ) (place depth next next_depth : ℕ) (found : Option Word) → found ≡ None → IsNext (words_left kind text place depth) found next next_depth → HasNoWord (words_left kind text place depth)
no_word kind text place depth next next_depth found is h word other other_depth there =
    (same_next kind text place depth None next next_depth (Some word) other other_depth (subst (λ (f : Option Word). IsNext (words_left kind text place depth) f next next_depth) is h) there).2

pub returns-in_err-word-clause-none : goal.returns-in_err-word-clause-none
returns-in_err-word-clause-none c =
    let p = err_from_is_err_and c.from_residual.result c.from_residual.ensures.1 in
    rw p.1 (λ word next depth is. c.in_err-word.ensures.none (Some word) next depth is)

pub returns-clause-none : goal.returns-clause-none
returns-clause-none c = elim c.match-branch-2.branch [
  | in-Some w ↦ rw w.result-is tt
  | in-None w ↦ rw w.result-is (no_word c.args.self.now.kind c.args.self.now.text c.args.self.now.place c.args.self.now.depth c.next.new.self.place c.next.new.self.depth c.in_ok-word.field-0 w.in-None.is c.in_ok-word.ensures.next)
]
