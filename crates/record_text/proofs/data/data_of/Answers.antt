use Rattle.std.proofs.Common.{ℕ, List, Result, Ok, Err, None}
use Rattle.std.proofs.lemmas.Result.{err_from_is_err_and}
use Rattle.std.specs.Prelude.{◌≢◌, IfErr}
use Rattle.wire_messages.specs.declared.rr.rdata.RData.{RData}
use Rattle.text_data.specs.ServiceText.{ParametersOfWords}
use Rattle.text_words.specs.declared.error.TextError.{TextError}
use Rattle.text_words.specs.declared.error.TextError.TheVariants.{Memory}
use Rattle.text_words.specs.declared.words.TextKind.{TextKind}
use Rattle.text_words.specs.declared.words.Word.{Word}
use Rattle.text_words.specs.Words.{AreWordsTo, StandOnce, words_left}
use Rattle.record_text.specs.RecordText.{HasData, HasNone, SpellsData}
use Rattle.record_text.proofs.SameWords.{same_spelled}
use Rattle.record_text.proofs.data.data_of.Goals as goal

none_stand : ParametersOfWords → StandOnce → (r : Result RData TextError) (number : ℕ) (kind : TextKind) (text : List ℕ) (place depth : ℕ) (fields : List Word) (end : ℕ) → AreWordsTo kind text place depth fields end
    → IfErr r (λ e. e ≢ Memory → HasNone (SpellsData None number fields)) → IfErr r (λ e. e ≢ Memory → HasNone (HasData None number (words_left kind text place depth)))
none_stand same once (Ok found) number kind text place depth fields end stand h = h
none_stand same once (Err e) number kind text place depth fields end stand h = λ no_want rdata has.
    h no_want rdata (same_spelled same None number has.words rdata has.spelled fields (once kind text place depth has.end end has.words fields has.stand stand).0)

pub returns-in_err-fields-clause-refused : goal.returns-in_err-fields-clause-refused
returns-in_err-fields-clause-refused c =
    let p = err_from_is_err_and c.from_residual.result c.from_residual.ensures.1 in
    rw (p.1, p.2) (λ other rdata has. c.in_err-fields.ensures.none other has.words has.end has.stand)

pub returns-clause-refused : goal.returns-clause-refused
returns-clause-refused c =
    none_stand c.parameters_once.ensures.same c.words_stand_once.ensures c.data_of_words.result c.args.record_type c.args.words.now.kind c.args.words.now.text c.args.words.now.place c.args.words.now.depth c.in_ok-fields.fields.items c.rest.new.self.place c.in_ok-fields.ensures.words
    (rw c.as_slice.ensures.value at c.data_of_words.ensures.refused)
