use Rattle.std.proofs.Common.{◌≡◌, ◌-◌}
use Rattle.wire_messages.specs.serialize.reading.SectionReading.{additionals_after, no_additionals}
use Rattle.wire_reading.proofs.serialize.reading.decoder.BinDecoder.read_additionals.Given as goal

abbrev pub invariant-additionals : goal.invariant-additionals
invariant-additionals l = record {
  so_far : additionals_after (l.count - l.counter) l.additionals l.self ≡ additionals_after l.count no_additionals l.fn.self;
  kept : l.self.bytes ≡ l.fn.self.bytes;
}
