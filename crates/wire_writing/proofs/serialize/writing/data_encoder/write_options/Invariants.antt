use Rattle.std.proofs.Common.{◌≡◌, ◌++◌, take}
use Rattle.std.specs.List.{AllByRecursion, flat_map}
use Rattle.wire_messages.specs.rr.RecordData.{option_octets, IsOption}
use Rattle.wire_writing.proofs.serialize.writing.data_encoder.write_options.Given as goal

abbrev pub invariant-loop-option : goal.invariant-loop-option
invariant-loop-option l = record {
  written : l.bytes.items ≡ l.fn.bytes.items ++ flat_map option_octets (take l.option-index l.options);
  in_range : AllByRecursion IsOption (take l.option-index l.options);
}
