use Rattle.std.proofs.Common.{take}
use Rattle.record_text.specs.RecordText.{AreTypes}
use Rattle.record_text.proofs.data.types.numbers.Given as goal

abbrev pub invariant-loop-word : goal.invariant-loop-word
invariant-loop-word l = AreTypes (take l.word-index l.words) l.numbers.items
