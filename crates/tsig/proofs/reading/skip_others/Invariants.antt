-- What is left to skip leads to where all of it leads.
use Rattle.std.proofs.Common.{◌≡◌}
use Rattle.tsig.specs.Reading.{other, skip}
use Rattle.tsig.proofs.reading.skip_others.Given as goal

abbrev pub invariant-loop-left : goal.invariant-loop-left
invariant-loop-left l = skip other l.count l.fn.decoder ≡ skip other l.left l.decoder

abbrev pub decreases-loop-left : goal.decreases-loop-left
decreases-loop-left l = l.left
