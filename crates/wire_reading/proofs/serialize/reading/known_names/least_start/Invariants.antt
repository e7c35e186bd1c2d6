use Rattle.std.proofs.Common.{ℕ, ◌-◌, List, length}
use Rattle.wire_messages.specs.serialize.layout.NameLayout.{LabelsAt}
use Rattle.wire_reading.proofs.lemmas.serialize.reading.KnownRests.{Scanned}
use Rattle.wire_reading.proofs.serialize.reading.known_names.least_start.Given as goal

abbrev pub invariant-labels : goal.invariant-labels
invariant-labels l = record {
  scanned : (labels : List (List ℕ)) (next : ℕ) → LabelsAt 0 l.bytes l.place l.place labels next → Scanned l.bytes l.place l.at labels next;
}

abbrev pub decreases-labels : goal.decreases-labels
decreases-labels l = length l.bytes - l.at
