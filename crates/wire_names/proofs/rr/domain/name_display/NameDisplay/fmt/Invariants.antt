use Rattle.std.proofs.Common.{◌≡◌, ◌≤◌, ◌-◌, length, take}
use Rattle.std.specs.Fmt.{HasWritten, IsPlainFormatter}
use Rattle.wire_names.specs.rr.domain.DomainName.{label_offset}
use Rattle.wire_names.specs.text.TextForm.{labels_text}
use Rattle.wire_names.proofs.rr.domain.name_display.NameDisplay.fmt.Given as goal

abbrev pub invariant-loop-place : goal.invariant-loop-place
invariant-loop-place g l = record {
  at : l.place ≡ label_offset l.self.labels l.count;
  below : l.count ≤ length l.self.labels;
  small : l.count ≤ l.place;
  wrote : IsPlainFormatter l.initial.f
      → HasWritten g.W.Write.write_str_gives l.initial.f (labels_text (take l.count l.self.labels)) l.f;
}

abbrev pub decreases-loop-place : goal.decreases-loop-place
decreases-loop-place g l = length l.wire - l.place
