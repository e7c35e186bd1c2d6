-- Nothing is kept from one set to the next.
use Rattle.std.proofs.Common.{◌-◌, length}
use Rattle.zone_answers.proofs.find.wild_among.Given as goal

abbrev pub invariant-loop-place : goal.invariant-loop-place
invariant-loop-place l = Unit {0}

abbrev pub decreases-loop-place : goal.decreases-loop-place
decreases-loop-place l = length l.before.sets.now - l.place
