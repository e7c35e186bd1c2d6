use Rattle.std.proofs.Common.{◌≡◌, ℕ, List, None, refl, subst}
use Rattle.std.specs.Prelude.{◌≢◌, IfErr, IfOk}
use Rattle.text_words.specs.declared.error.TextError.TheVariants.{Memory}
use Rattle.text_words.specs.declared.words.TextKind.{TextKind}
use Rattle.text_words.specs.declared.words.TextKind.TheVariants.{Line}
use Rattle.text_words.specs.Words.{WordsLeft, words_left}
use Rattle.record_text.specs.RecordText.{HasData, HasNone}
use Rattle.record_text.proofs.data.read_data.Goals as goal

-- all of a line is left
whole : (w : WordsLeft) (line : List ℕ) → w.text ≡ line → w.place ≡ 0 → w.kind ≡ Line → w.depth ≡ 0 → w ≡ words_left Line line 0 0
whole w line a b k d =
    subst (λ (t : List ℕ). w ≡ words_left Line t 0 0) a (subst (λ (p : ℕ). w ≡ words_left Line w.text p 0) b
    (subst (λ (x : TextKind). w ≡ words_left x w.text w.place 0) k (subst (λ (n : ℕ). w ≡ words_left w.kind w.text w.place n) d refl)))

pub returns-clause-spelled : goal.returns-clause-spelled
returns-clause-spelled c = subst (λ (w : WordsLeft). IfOk c.data_of.result (HasData None c.args.record_type w))
    (whole c.new.result c.args.text.now c.new.ensures.text c.new.ensures.place c.new.ensures.kind c.new.ensures.depth) c.data_of.ensures.spelled

pub returns-clause-refused : goal.returns-clause-refused
returns-clause-refused c = subst (λ (w : WordsLeft). IfErr c.data_of.result (λ e. e ≢ Memory → HasNone (HasData None c.args.record_type w)))
    (whole c.new.result c.args.text.now c.new.ensures.text c.new.ensures.place c.new.ensures.kind c.new.ensures.depth) c.data_of.ensures.refused
