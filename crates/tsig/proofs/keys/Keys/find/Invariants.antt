-- What is found among the rest is what is found among all.
use Rattle.std.proofs.Common.{◌≡◌, length}
use Rattle.tsig.specs.Keys.{key_of}
use Rattle.tsig.proofs.keys.Keys.find.Given as goal

abbrev pub invariant-loop-rest : goal.invariant-loop-rest
invariant-loop-rest l = key_of l.self l.name ≡ key_of l.rest l.name

abbrev pub decreases-loop-rest : goal.decreases-loop-rest
decreases-loop-rest l = length l.rest
