use Rattle.std.proofs.Common.{◌≡◌, ◌≤◌, ◌+◌, ◌-◌, ◌++◌, length, take}
use Rattle.wire_names.specs.rr.domain.DomainName.{label_offset, wire_form}
use Rattle.text_words.proofs.names.append_labels.Given as goal

abbrev pub invariant-labels : goal.invariant-labels
invariant-labels l = record {
  at : l.place ≡ label_offset l.name.labels l.count;
  below : l.count ≤ length l.name.labels;
  small : l.count ≤ l.place;
  labels : l.labels ≡ l.initial.labels ++ take l.count l.name.labels;
  size : length (wire_form l.labels) ≡ length (wire_form l.initial.labels) + l.place;
}

abbrev pub decreases-labels : goal.decreases-labels
decreases-labels l = length l.wire - l.place
