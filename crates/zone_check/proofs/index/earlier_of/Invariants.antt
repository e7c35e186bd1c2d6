use Rattle.zone_check.specs.Indexes.{HasEarlierTo, HasLasts}
use Rattle.zone_check.proofs.index.earlier_of.Given as goal

abbrev pub invariant-loop-place : goal.invariant-loop-place
invariant-loop-place l = record { lasts : HasLasts l.records l.place l.lasts; earlier : HasEarlierTo l.records l.place l.earlier.items }
