use Rattle.std.proofs.Common.{◌≡◌, ◌-◌, []}
use Rattle.wire_messages.specs.serialize.reading.SectionReading.{items}
use Rattle.wire_messages.specs.serialize.reading.SectionReading.{section_record}
use Rattle.wire_reading.proofs.serialize.reading.decoder.BinDecoder.read_section.Given as goal

abbrev pub invariant-records : goal.invariant-records
invariant-records l = record {
  so_far : items section_record (l.count - l.counter) l.records l.self ≡ items section_record l.count [] l.fn.self;
  kept : l.self.bytes ≡ l.fn.self.bytes;
}
