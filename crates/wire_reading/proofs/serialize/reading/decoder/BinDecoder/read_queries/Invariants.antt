use Rattle.std.proofs.Common.{◌≡◌, ◌-◌, []}
use Rattle.wire_messages.specs.serialize.reading.SectionReading.{items}
use Rattle.wire_messages.specs.serialize.reading.RecordReading.{question}
use Rattle.wire_reading.proofs.serialize.reading.decoder.BinDecoder.read_queries.Given as goal

abbrev pub invariant-queries : goal.invariant-queries
invariant-queries l = record {
  so_far : items question (l.count - l.counter) l.queries l.self ≡ items question l.count [] l.fn.self;
  kept : l.self.bytes ≡ l.fn.self.bytes;
}
