use Rattle.std.proofs.Common.{◌≡◌, ◌-◌}
use Rattle.wire_messages.specs.serialize.reading.RecordReading.{strings_until}
use Rattle.wire_reading.proofs.lemmas.serialize.reading.StringsRead.{with_front}
use Rattle.wire_reading.proofs.serialize.reading.decoder.BinDecoder.read_strings.Given as goal

abbrev pub invariant-strings : goal.invariant-strings
invariant-strings l = record {
  so_far : with_front l.strings (strings_until l.stop l.self) ≡ strings_until l.stop l.fn.self;
  kept : l.self.bytes ≡ l.fn.self.bytes;
}

abbrev pub decreases-strings : goal.decreases-strings
decreases-strings l = l.stop - l.self.place
