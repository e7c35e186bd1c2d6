use Rattle.std.proofs.Common.{◌≡◌, ◌≤◌, length, take}
use Rattle.std.specs.List.{flat_map}
use Rattle.wire_messages.specs.rr.RecordData.{option_octets}
use Rattle.wire_writing.proofs.serialize.writing.data_encoder.options_len.Given as goal

abbrev pub invariant-loop-option : goal.invariant-loop-option
invariant-loop-option l = record {
  sum : l.len ≡ length (flat_map option_octets (take l.option-index l.options));
  small : l.len ≤ 65535;
}
