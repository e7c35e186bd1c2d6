use Rattle.std.proofs.Common.{◌≡◌, ◌^◌, ◌<◌, ℕ, false, Result, Ok, Err}
use Rattle.std.specs.Prelude.{IfOk, OnErr}
use Rattle.record_text.specs.declared.data.field.Names.TheVariants as names
use Rattle.text_words.specs.declared.error.TextError.{TextError}
use Rattle.text_words.specs.declared.words.Word.{Word}
use Rattle.text_words.specs.Spelling.{IsNumber}
use Rattle.record_text.specs.RecordText.{HasNone, IsNamed, SpellsPort}
use Rattle.record_text.specs.RecordText.SpellsPort.{named, numbered}
use Rattle.record_text.proofs.data.ports.port.Goals as goal

pub returns-in-Some-clause-spelled : goal.returns-in-Some-clause-spelled
returns-in-Some-clause-spelled c = (c.if-word.false, rw c.from.ensures (named c.in-Some.ensures.named))

as_port : (r : Result ℕ TextError) (w : Word) → HasNone (IsNamed names.Services w.bytes.now) → IfOk r (λ n. (w.quoted ≡ false) × IsNumber w.bytes.now n × (n < 2 ^ 16)) → IfOk r (λ port. (w.quoted ≡ false) × SpellsPort w.bytes.now port)
as_port (Ok n) w none h = (h.0, numbered none h.1 h.2)
as_port (Err e) w none h = h

no_port : (w : Word) → HasNone (IsNamed names.Services w.bytes.now) → HasNone (λ n. (w.quoted ≡ false) × IsNumber w.bytes.now n × (n < 2 ^ 16)) → (port : ℕ) → w.quoted ≡ false → SpellsPort w.bytes.now port → ⊥
no_port w none other port plain (named is) = none port is
no_port w none other port plain (numbered unnamed is small) = other port (plain, is, small)

refused : (r : Result ℕ TextError) (w : Word) → HasNone (IsNamed names.Services w.bytes.now) → OnErr r (HasNone (λ n. (w.quoted ≡ false) × IsNumber w.bytes.now n × (n < 2 ^ 16))) → OnErr r (HasNone (λ port. (w.quoted ≡ false) × SpellsPort w.bytes.now port))
refused (Ok n) w none h = h
refused (Err e) w none h = λ port is. no_port w none h port is.0 is.1

pub returns-clause-spelled : goal.returns-clause-spelled
returns-clause-spelled c = as_port c.number16.result c.args.word.now c.in_default.ensures.none c.number16.ensures.spelled

pub returns-clause-refused : goal.returns-clause-refused
returns-clause-refused c = refused c.number16.result c.args.word.now c.in_default.ensures.none c.number16.ensures.refused
