use Rattle.std.proofs.Common.{◌≡◌, ◌≤◌, length, ◌+◌, ◌-◌}
use Rattle.std.specs.Prelude.{IfSome}
use Rattle.wire_messages.specs.serialize.reading.NameReading.{labels_from}
use Rattle.wire_names.specs.rr.domain.DomainName.{wire_form}
use Rattle.wire_reading.proofs.lemmas.serialize.reading.LabelLoop.{with_front}
use Rattle.wire_reading.proofs.serialize.reading.name_reader.read_by_labels.Given as goal

abbrev pub invariant-labels : goal.invariant-labels
invariant-labels l = record {
  so_far : with_front l.labels l.after (labels_from l.bytes l.start l.place l.size) ≡ labels_from l.bytes l.from l.from 1;
  size : l.size ≤ 255;
  written : l.size ≡ 1 + length (wire_form l.labels);
  after : IfSome l.after (λ a. a ≤ length l.bytes);
}

abbrev pub decreases-labels : goal.decreases-labels
decreases-labels l = l.start + 255 - l.size
