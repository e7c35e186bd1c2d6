use Rattle.std.proofs.Common.{◌≤◌, ◌+◌, ◌-◌, length, drop}
use Rattle.wire_reading.specs.representation.KnownNames.{IsRest, AreRests}
use Rattle.wire_reading.proofs.serialize.reading.known_names.note_rests.Given as goal

abbrev pub invariant-places : goal.invariant-places
invariant-places l = record {
  kept : AreRests l.bytes l.labels l.rests.items;
  within : l.from ≤ length l.labels;
  rest : IsRest l.bytes l.least l.place (drop l.from l.labels);
}

abbrev pub decreases-places : goal.decreases-places
decreases-places l = l.least + (length l.labels - l.from)
