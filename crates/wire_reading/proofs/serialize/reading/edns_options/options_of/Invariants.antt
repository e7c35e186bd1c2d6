use Rattle.std.proofs.Common.{◌≡◌, ◌+◌, ◌-◌, ◌≤◌, length}
use Rattle.wire_messages.specs.serialize.reading.RecordReading.{options_within}
use Rattle.wire_reading.proofs.lemmas.serialize.reading.OptionsRead.{with_options}
use Rattle.wire_reading.proofs.serialize.reading.edns_options.options_of.Given as goal

abbrev pub invariant-options : goal.invariant-options
invariant-options l = record {
  so_far : with_options l.options (options_within (length l.bytes - length l.options) l.rest) ≡ options_within (length l.bytes) l.bytes;
  enough : length l.rest + length l.options ≤ length l.bytes;
}

abbrev pub decreases-options : goal.decreases-options
decreases-options l = length l.rest
