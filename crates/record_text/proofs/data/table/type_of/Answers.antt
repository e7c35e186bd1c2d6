use Rattle.std.proofs.Common.{ℕ, List}
use Rattle.record_text.specs.RecordText.{HasNone, IsTypeNumber, SpellsMnemonic, SpellsType}
use Rattle.record_text.specs.RecordText.SpellsType.{mnemonic, numbered}
use Rattle.record_text.proofs.data.table.type_of.Goals as goal

pub returns-in-Some-clause-spelled : goal.returns-in-Some-clause-spelled
returns-in-Some-clause-spelled c = (c.if-word.false, rw c.new.ensures (mnemonic c.in-Some.ensures.named))

pub returns-in-Some-numbered-clause-spelled : goal.returns-in-Some-numbered-clause-spelled
returns-in-Some-numbered-clause-spelled c = (c.if-word.false, rw c.new-in-Some-numbered.ensures (numbered c.in-Some-numbered.ensures.spelled))

neither : (text : List ℕ) → HasNone (SpellsMnemonic text) → HasNone (IsTypeNumber text) → HasNone (SpellsType text)
neither text none other number (mnemonic is) = none number is
neither text none other number (numbered is) = other number is

pub returns-in-None-clause-refused : goal.returns-in-None-clause-refused
returns-in-None-clause-refused c = λ number plain is. neither c.args.word.now.bytes.now c.in_default.ensures.none c.in-None.ensures.none number is
