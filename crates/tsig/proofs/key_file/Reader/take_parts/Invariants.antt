-- What takes the rest from here takes all parts from the start.
use Rattle.std.proofs.Common.{length, map}
use Rattle.tsig.specs.KeyFiles.{TakesLine}
use Rattle.tsig.specs.declared.key_file.Reader.{Reader}
use Rattle.tsig.proofs.key_file.Reader.take_parts.Given as goal

abbrev pub invariant-loop-rest : goal.invariant-loop-rest
invariant-loop-rest l = (new : Reader) → TakesLine l.self (map (λ part. part.now) l.rest) new → TakesLine l.fn.self (map (λ part. part.now) l.parts) new

abbrev pub decreases-loop-rest : goal.decreases-loop-rest
decreases-loop-rest l = length l.rest
