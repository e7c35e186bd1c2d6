use Rattle.std.proofs.Common.{◌≡◌, ◌+◌, ◌<◌, ℕ, List, [], ◌∷◌, ◌++◌, length, take, get_or, sym, subst}
use Rattle.std.proofs.lemmas.List.{take_more}
use Rattle.std.proofs.lemmas.Result.{err_from_is_err_and}
use Rattle.text_words.specs.declared.words.Word.{Word}
use Rattle.record_text.specs.RecordText.{AreLowTypes}
use Rattle.record_text.specs.RecordText.AreLowTypes.{none, more}
use Rattle.record_text.proofs.NoRow.{IsLow, no_low_at}
use Rattle.record_text.proofs.data.types.low_types.Goals as goal

more_low : (words : List Word) (i : ℕ) (d : Word) (numbers after : List ℕ) (number : ℕ) → i < length words → after ≡ numbers ++ number ∷ [] → AreLowTypes (take i words) numbers → IsLow (get_or words i d) number → AreLowTypes (take (i + 1) words) after
more_low words i d numbers after number below pushed before is =
    subst (AreLowTypes (take (i + 1) words)) (sym pushed) (subst (λ (ws : List Word). AreLowTypes ws (numbers ++ number ∷ [])) (sym (take_more words i d below)) (more (get_or words i d) before is.0 is.1 is.2 is.3))

pub loop-word-init : goal.loop-word-init
loop-word-init c = rw c.new-numbers.ensures.items none

pub loop-word-preserved : goal.loop-word-preserved
loop-word-preserved c = more_low c.args.words.now c.loop-word.word-index _ c.loop-word.numbers.items c.push.new.self.items c.in_ok-low_type.field-0 c.loop-word-test.true c.in_ok-push.ensures.items c.loop-word.invariant c.in_ok-low_type.ensures.spelled

pub returns-in_err-low_type-clause-refused : goal.returns-in_err-low_type-clause-refused
returns-in_err-low_type-clause-refused c =
    let p = err_from_is_err_and c.from_residual.result c.from_residual.ensures.1 in
    rw p.1 (λ other. no_low_at c.args.words.now c.loop-word.word-index _ c.loop-word-test.true c.in_err-low_type.ensures.refused)
