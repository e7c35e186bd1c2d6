-- The places of the hosts of the records so far are told.
use Rattle.std.proofs.Common.{take}
use Rattle.zone_answers.specs.representation.TopCuts.{AreEach, IsHostPlace}
use Rattle.zone_answers.proofs.cuts.host_places.Given as goal

abbrev pub invariant-loop-q : goal.invariant-loop-q
invariant-loop-q l = AreEach (IsHostPlace l.origin l.sets) (take l.q-index l.servers) l.places.items
