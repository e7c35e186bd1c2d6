use Rattle.std.proofs.Common.{◌≡◌, List, ℕ, false, Bool, Result, Ok, Err}
use Rattle.std.specs.Prelude.{◌≢◌, IfErr}
use Rattle.text_words.specs.declared.error.TextError.{TextError}
use Rattle.text_words.specs.declared.error.TextError.TheVariants.{Memory}
use Rattle.record_text.specs.Prefixes.{SpellsPrefix}
use Rattle.record_text.specs.RecordText.{HasNone}
use Rattle.record_text.proofs.data.prefixes.put_prefix.Goals as goal

refused : (r : Result (Unit {0}) TextError) (t : List ℕ) (quoted : Bool) → IfErr r (λ e. e ≢ Memory → HasNone (SpellsPrefix t)) → IfErr r (λ e. e ≢ Memory → quoted ≡ false → HasNone (SpellsPrefix t))
refused (Ok done) t quoted h = h
refused (Err e) t quoted h = λ other plain. h other

pub returns-clause-refused : goal.returns-clause-refused
returns-clause-refused c = refused c.put_text.result c.args.word.now.bytes.now c.args.word.now.quoted c.put_text.ensures.refused
