use Rattle.std.proofs.Common.{ℕ, List, Option, Result, Ok, Err}
use Rattle.std.specs.Int.{w16, to_be_bytes}
use Rattle.std.specs.Prelude.{◌≢◌, IfErr, OnOk}
use Rattle.wire_names.specs.rr.domain.DomainName.{DomainName}
use Rattle.text_words.specs.declared.error.TextError.{TextError}
use Rattle.text_words.specs.declared.error.TextError.TheVariants.{Memory}
use Rattle.text_words.specs.declared.words.Word.{Word}
use Rattle.text_words.specs.Spelling.{Puts}
use Rattle.record_text.specs.declared.data.field.Field.TheVariants as field
use Rattle.record_text.specs.declared.data.field.Names.{Names}
use Rattle.record_text.specs.RecordText.{HasNone, IsField, IsNamed}
use Rattle.record_text.specs.RecordText.IsField.{number16, named16, unnamed16, in_digits}
use Rattle.record_text.proofs.NoField.{no_named16}
use Rattle.record_text.proofs.data.mnemonics.put_named16.Goals as goal

as_named : (names : Names) (origin : Option DomainName) (word : Word) (octets : List ℕ) → IsField origin field.Number16 word octets → IsField origin (field.Named16 names) word octets
as_named names origin word octets (number16 plain is small) = unnamed16 plain is small
as_named names origin word octets (in_digits plain spelled) = elim spelled [ ]

by_number : (r : Result (Unit {0}) TextError) (names : Names) (word : Word) (old new : List ℕ) → OnOk r ((o : Option DomainName) → Puts (IsField o field.Number16 word) old new) → OnOk r ((o : Option DomainName) → Puts (IsField o (field.Named16 names) word) old new)
by_number (Ok done) names word old new h = λ o. ((h o).0, (h o).1, as_named names o word (h o).0 (h o).2)
by_number (Err e) names word old new h = h

no_number : (r : Result (Unit {0}) TextError) (names : Names) (word : Word) → HasNone (IsNamed names word.bytes.now) → IfErr r (λ e. e ≢ Memory → (o : Option DomainName) → HasNone (IsField o field.Number16 word))
    → IfErr r (λ e. e ≢ Memory → (o : Option DomainName) → HasNone (IsField o (field.Named16 names) word))
no_number (Ok done) names word none h = h
no_number (Err e) names word none h = λ other. no_named16 names word none (h other)

pub returns-in_default-clause-put : goal.returns-in_default-clause-put
returns-in_default-clause-put c = by_number c.put_number16.result c.args.names c.args.word.now c.args.data.now.items c.put_number16.new.data.items c.put_number16.ensures.put

pub returns-in_default-clause-refused : goal.returns-in_default-clause-refused
returns-in_default-clause-refused c = no_number c.put_number16.result c.args.names c.args.word.now c.in_default.ensures.none c.put_number16.ensures.refused

pub returns-clause-put : goal.returns-clause-put
returns-clause-put c = λ origin. (to_be_bytes w16 c.in-Some.number, rw (c.to_be_bytes.ensures, c.from.ensures) at c.in_ok-extend_from_slice.ensures.items, named16 c.if-word.false c.in-Some.ensures.named)
