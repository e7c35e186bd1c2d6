-- The rest is small exactly if all are.
use Rattle.std.proofs.Common.{length}
use Rattle.journal.specs.Frames.{AreSmall}
use Rattle.journal.specs.Read.{contents}
use Rattle.journal.proofs.writing.are_small.Given as goal

abbrev pub invariant-loop-rest : goal.invariant-loop-rest
invariant-loop-rest l = record {
  all : AreSmall (contents l.rest) → AreSmall (contents l.fn.entries);
  rest : AreSmall (contents l.fn.entries) → AreSmall (contents l.rest);
}

abbrev pub decreases-loop-rest : goal.decreases-loop-rest
decreases-loop-rest l = length l.rest
