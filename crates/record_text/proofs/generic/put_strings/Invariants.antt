use Rattle.std.proofs.Common.{◌≡◌, ◌++◌, take}
use Rattle.std.specs.List.{flat_map}
use Rattle.wire_messages.specs.rr.RecordData.{character_string}
use Rattle.record_text.proofs.generic.put_strings.Given as goal

abbrev pub invariant-loop-text : goal.invariant-loop-text
invariant-loop-text l = l.bytes.items ≡ l.fn.bytes.items ++ flat_map character_string (take l.text-index l.strings)
