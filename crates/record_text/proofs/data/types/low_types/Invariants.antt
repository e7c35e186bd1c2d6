use Rattle.std.proofs.Common.{take}
use Rattle.record_text.specs.RecordText.{AreLowTypes}
use Rattle.record_text.proofs.data.types.low_types.Given as goal

abbrev pub invariant-loop-word : goal.invariant-loop-word
invariant-loop-word l = AreLowTypes (take l.word-index l.words) l.numbers.items
