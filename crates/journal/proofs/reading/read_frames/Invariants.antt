-- The frames so far are read, and the rest is what stands behind them.
use Rattle.std.proofs.Common.{◌≡◌, ◌++◌, length}
use Rattle.journal.specs.Frames.{frames, AreSmall}
use Rattle.journal.specs.Read.{contents}
use Rattle.journal.proofs.reading.read_frames.Given as goal

abbrev pub invariant-loop-entry : goal.invariant-loop-entry
invariant-loop-entry l = record {
  split : l.bytes ≡ frames (contents l.entries.items) ++ l.rest;
  small : AreSmall (contents l.entries.items);
}

abbrev pub decreases-loop-entry : goal.decreases-loop-entry
decreases-loop-entry l = length l.rest
