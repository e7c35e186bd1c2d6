use Rattle.std.proofs.Common.{take, drop}
use Rattle.text_words.proofs.UnitSteps.{UnitsSoFar}
use Rattle.text_words.proofs.ttl.units.Given as goal

abbrev pub invariant-loop-byte : goal.invariant-loop-byte
invariant-loop-byte l = UnitsSoFar l.byte-items (take l.byte-index l.byte-items) (drop l.byte-index l.byte-items) l.sum l.number
