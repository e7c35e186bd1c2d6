-- With the frames of the rest the bytes are those of all.
use Rattle.std.proofs.Common.{◌≡◌, ◌++◌, length}
use Rattle.std.specs.Int.{w32, to_be_bytes}
use Rattle.journal.specs.Frames.{AreSmall, frames}
use Rattle.journal.specs.Read.{contents}
use Rattle.journal.proofs.writing.behind_gate.Given as goal

abbrev pub invariant-loop-rest : goal.invariant-loop-rest
invariant-loop-rest l = record {
  so_far : l.bytes.items ++ frames (contents l.rest) ≡ (to_be_bytes w32 (length l.fn.first) ++ l.fn.first) ++ frames (contents l.fn.others);
  small : AreSmall (contents l.rest);
}

abbrev pub decreases-loop-rest : goal.decreases-loop-rest
decreases-loop-rest l = length l.rest
