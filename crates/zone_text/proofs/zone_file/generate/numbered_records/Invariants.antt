use Rattle.std.proofs.Common.{◌≡◌, ◌+◌, ◌*◌, ◌-◌, ◌<◌, ◌≤◌, ℕ, length}
use Rattle.zone_text.specs.ZoneFiles.{AreEach, IsNumberedRecord, template}
use Rattle.zone_text.proofs.zone_file.generate.numbered_records.Given as goal

abbrev pub invariant-numbers : goal.invariant-numbers
invariant-numbers l = record {
  each : AreEach (λ k. IsNumberedRecord l.before (template l.lhs l.front.ttl l.front.record_type l.rhs) (l.range.first + k * l.range.step)) (length l.records) l.records;
  at : l.number ≡ l.range.first + length l.records * l.range.step;
  below : (k : ℕ) → k < length l.records → l.range.first + k * l.range.step ≤ l.range.last;
}

abbrev pub decreases-numbers : goal.decreases-numbers
decreases-numbers l = l.range.last + 1 - l.number
