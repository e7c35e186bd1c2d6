use Rattle.std.proofs.Common.{◌+◌, ◌-◌, ◌<◌, ◌≤◌, length}
use Rattle.wire_reading.proofs.lemmas.serialize.reading.PlainNames.{IsPlain}
use Rattle.wire_reading.proofs.serialize.reading.name_reader.plain_end.Given as goal

abbrev pub invariant-loop-place : goal.invariant-loop-place
invariant-loop-place l = record {
  order : l.from ≤ l.place;
  plain : l.place < l.from + 255 → l.place < length l.bytes → IsPlain l.bytes l.from l.place;
}

abbrev pub decreases-loop-place : goal.decreases-loop-place
decreases-loop-place l = l.from + 255 - l.place
