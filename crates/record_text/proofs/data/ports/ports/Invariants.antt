use Rattle.std.proofs.Common.{take}
use Rattle.record_text.specs.RecordText.{ArePorts}
use Rattle.record_text.proofs.data.ports.ports.Given as goal

abbrev pub invariant-loop-word : goal.invariant-loop-word
invariant-loop-word l = ArePorts (take l.word-index l.words) l.ports.items
