-- What takes the rest from here takes all lines from the start.
use Rattle.std.proofs.Common.{length, map}
use Rattle.tsig.specs.KeyFiles.{TakesLines}
use Rattle.tsig.specs.declared.key_file.Reader.{Reader}
use Rattle.tsig.proofs.key_file.Reader.take_lines.Given as goal

abbrev pub invariant-loop-rest : goal.invariant-loop-rest
invariant-loop-rest l = (new : Reader) → TakesLines l.self (map (λ line. line.now) l.rest) new → TakesLines l.fn.self (map (λ line. line.now) l.lines) new

abbrev pub decreases-loop-rest : goal.decreases-loop-rest
decreases-loop-rest l = length l.rest
