use Rattle.std.proofs.Common.{◌≡◌, ◌++◌, take}
use Rattle.std.specs.List.{flat_map}
use Rattle.wire_messages.specs.rr.RecordData.{option_octets}
use Rattle.record_text.proofs.generic.put_options.Given as goal

abbrev pub invariant-loop-option : goal.invariant-loop-option
invariant-loop-option l = l.bytes.items ≡ l.fn.bytes.items ++ flat_map option_octets (take l.option-index l.options)
