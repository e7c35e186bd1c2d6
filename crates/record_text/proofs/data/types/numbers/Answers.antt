use Rattle.std.proofs.Common.{◌≡◌, ◌∙◌, ◌+◌, ◌<◌, ℕ, false, List, [], ◌∷◌, ◌++◌, length, take, get_or, sym, ap, subst}
use Rattle.std.proofs.lemmas.List.{take_more}
use Rattle.std.proofs.lemmas.Result.{err_from_is_err_and}
use Rattle.text_words.specs.declared.words.Word.{Word}
use Rattle.record_text.specs.RecordText.{AreTypes, SpellsType}
use Rattle.record_text.specs.RecordText.AreTypes.{none, more}
use Rattle.record_text.proofs.NoRow.{no_type_at}
use Rattle.record_text.proofs.data.types.numbers.Goals as goal

more_types : (words : List Word) (i : ℕ) (d : Word) (numbers after : List ℕ) (n number : ℕ) → i < length words → after ≡ numbers ++ n ∷ [] → n ≡ number → AreTypes (take i words) numbers → (get_or words i d).quoted ≡ false
    → SpellsType (get_or words i d).bytes.now number → AreTypes (take (i + 1) words) after
more_types words i d numbers after n number below pushed same before unquoted is =
    subst (AreTypes (take (i + 1) words)) (sym (pushed ∙ ap (λ (k : ℕ). numbers ++ k ∷ []) same))
    (subst (λ (ws : List Word). AreTypes ws (numbers ++ number ∷ [])) (sym (take_more words i d below)) (more (get_or words i d) before unquoted is))

pub loop-word-init : goal.loop-word-init
loop-word-init c = rw c.new-numbers.ensures.items none

pub loop-word-preserved : goal.loop-word-preserved
loop-word-preserved c = more_types c.args.words.now c.loop-word.word-index _ c.loop-word.numbers.items c.push.new.self.items c.value.result c.in_ok-type_of.field-0 c.loop-word-test.true c.in_ok-push.ensures.items c.value.ensures c.loop-word.invariant
    c.in_ok-type_of.ensures.spelled.0 c.in_ok-type_of.ensures.spelled.1

pub returns-in_err-type_of-clause-refused : goal.returns-in_err-type_of-clause-refused
returns-in_err-type_of-clause-refused c =
    let p = err_from_is_err_and c.from_residual.result c.from_residual.ensures.1 in
    rw p.1 (λ other. no_type_at c.args.words.now c.loop-word.word-index _ c.loop-word-test.true c.in_err-type_of.ensures.refused)
