use Rattle.std.proofs.Common.{true, ◌≡◌, ℕ, false, List, Result, Ok, Err, Option}
use Rattle.std.specs.Prelude.{◌≢◌, IfErr, OnOk}
use Rattle.wire_names.specs.rr.domain.DomainName.{DomainName}
use Rattle.record_text.specs.declared.data.field.Field.TheVariants as field
use Rattle.record_text.specs.declared.data.hex_groups.Group.TheVariants as group
use Rattle.text_words.specs.declared.error.TextError.{TextError}
use Rattle.text_words.specs.declared.error.TextError.TheVariants.{Memory}
use Rattle.text_words.specs.declared.words.Word.{Word}
use Rattle.text_words.specs.Spelling.{Puts}
use Rattle.record_text.specs.RecordText.{HasNone, IsField}
use Rattle.record_text.specs.RecordText.IsField.{in_digits}
use Rattle.record_text.specs.RecordText.SpellsOctets.{locator64}
use Rattle.record_text.specs.Groups.{SpellsHexGroups}
use Rattle.record_text.proofs.NoField.{no_locator64}
use Rattle.record_text.proofs.data.hex_groups.put_locator64.Goals as goal

as_field : (r : Result (Unit {0}) TextError) (word : Word) (old new : List ℕ) → word.quoted ≡ false → OnOk r (Puts (SpellsHexGroups 58 group.Bits16 4 word.bytes.now) old new)
    → OnOk r ((origin : Option DomainName) → Puts (IsField origin field.Locator64 word) old new)
as_field (Ok done) word old new unquoted h = λ origin. (h.0, h.1, in_digits unquoted (locator64 h.2))
as_field (Err e) word old new unquoted h = h

pub returns-clause-put : goal.returns-clause-put
returns-clause-put c = as_field c.put_groups.result c.args.word.now c.args.data.now.items c.put_groups.new.data.items c.if-word.false c.put_groups.ensures.put

no_groups : (r : Result (Unit {0}) TextError) (word : Word) → IfErr r (λ e. e ≢ Memory → HasNone (SpellsHexGroups 58 group.Bits16 4 word.bytes.now)) → IfErr r (λ e. e ≢ Memory → (origin : Option DomainName) → HasNone (IsField origin field.Locator64 word))
no_groups (Ok done) word h = h
no_groups (Err e) word h = λ other. no_locator64 word (λ octets is. h other octets is.1)

pub returns-clause-refused : goal.returns-clause-refused
returns-clause-refused c = no_groups c.put_groups.result c.args.word.now c.put_groups.ensures.refused

quoted : (word : Word) → word.quoted ≡ true → (origin : Option DomainName) → HasNone (IsField origin field.Locator64 word)
quoted word is = no_locator64 word (λ octets plain. absurd (cc))

pub returns-then-word-clause-refused : goal.returns-then-word-clause-refused
returns-then-word-clause-refused c = λ other. quoted c.args.word.now c.if-word.true
