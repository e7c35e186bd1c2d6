use Rattle.std.proofs.Common.{◌≡◌, ◌∙◌, ◌^◌, ◌<◌, ◌≤◌, ℕ, false, sym, arith}
use Rattle.std.proofs.lemmas.Result.{err_from_is_err_and}
use Rattle.text_words.specs.declared.words.Word.{Word}
use Rattle.text_words.specs.Spelling.{IsNoNumberWord, IsNumber}
use Rattle.record_text.specs.RecordText.{HasNone}
use Rattle.record_text.proofs.data.fields.number16.Goals as goal

none_of_32 : (word : Word) → IsNoNumberWord word → HasNone (λ n. (word.quoted ≡ false) × IsNumber word.bytes.now n × (n < 2 ^ 16))
none_of_32 word none n is = none n is.0 is.1 (omega (arith, is.2))

too_great : (word : Word) (number : ℕ) → IsNumber word.bytes.now number → 2 ^ 16 ≤ number → HasNone (λ n. (word.quoted ≡ false) × IsNumber word.bytes.now n × (n < 2 ^ 16))
too_great word number told great n is = let same : number ≡ n = sym told.value ∙ is.1.value in absurd (omega (arith, same, great, is.2))

pub returns-in_err-number-clause-refused : goal.returns-in_err-number-clause-refused
returns-in_err-number-clause-refused c =
    let p = err_from_is_err_and c.from_residual.result c.from_residual.ensures.1 in
    rw p.1 (none_of_32 c.args.word.now c.in_err-number.ensures.refused)

pub returns-in-Err-clause-refused : goal.returns-in-Err-clause-refused
returns-in-Err-clause-refused c = too_great c.args.word.now c.in_ok-number.number c.in_ok-number.ensures.number.1 (omega (arith, c.in-Err.ensures))
