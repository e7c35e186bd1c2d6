use Rattle.std.proofs.Common.{◌≡◌, ◌-◌, ◌≤◌, [], length}
use Rattle.wire_messages.specs.serialize.reading.SectionReading.{items}
use Rattle.wire_messages.specs.serialize.reading.RecordReading.{question}
use Rattle.hickory_base.proofs.requests.request_reading.read_query_list.Given as goal

abbrev pub invariant-queries : goal.invariant-queries
invariant-queries l = record {
  so_far : items question (l.count - l.counter) l.queries l.decoder ≡ items question l.count [] l.fn.decoder;
  kept : l.decoder.bytes ≡ l.fn.decoder.bytes;
  number : length l.queries ≤ l.counter;
}
