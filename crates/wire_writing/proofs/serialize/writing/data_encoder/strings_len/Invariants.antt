use Rattle.std.proofs.Common.{◌≡◌, ◌≤◌, length, take}
use Rattle.std.specs.List.{flat_map}
use Rattle.wire_messages.specs.rr.RecordData.{character_string}
use Rattle.wire_writing.proofs.serialize.writing.data_encoder.strings_len.Given as goal

abbrev pub invariant-loop-text : goal.invariant-loop-text
invariant-loop-text l = record {
  sum : l.len ≡ length (flat_map character_string (take l.text-index l.strings));
  small : l.len ≤ 65535;
}
